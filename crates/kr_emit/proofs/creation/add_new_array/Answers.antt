use Rattle.std.proofs.Common.{◌++◌, List, ℕ, ap, sym}
use Rattle.std.specs.Prelude.{codes}
use Rattle.kr_emit_meaning.specs.Buildable.{array_elements}
use Rattle.kr_emit_meaning.specs.Builders.{declared_text, element_text, length_text, local_text}
use Rattle.kr_emit.proofs.Lines.{array_added, line_as}
use Rattle.kr_emit.specs.Makings.{head_text}
use Rattle.kr_emit.specs.TypeNames.{type_name}
use Rattle.kr_space_layout.specs.Bounds.{bare}
use Rattle.kr_space_problem.specs.Posed.{posed}
use Rattle.kr_text.specs.Lines.{line_bytes}
use Rattle.kr_emit.proofs.creation.add_new_array.Goals as goal

pub returns : goal.returns
returns c =
    let program = (posed c.args.problem.now).program in
    let type = element_text program.table.headings (array_elements program c.args.number) in
    let local = local_text c.args.objects.now c.args.object in
    let long = length_text (bare c.args.problem.now.layout) c.args.structure.now c.args.object in
    let created = codes "[" ++ long ++ codes "]" in
    let old = line_bytes c.args.line.now in
    let new = line_bytes c.add-2.new.self in
    let head = head_text (type_name c.element_name.result) (codes "[]") local in
    line_as c.add-2.result old new (head ++ created ++ codes ";\n") (declared_text type (codes "[]") local created)
    (array_added c.add-2.result old (line_bytes c.add_head.new.line) (line_bytes c.add.new.self) (line_bytes c.add_length.new.line) new head long c.in_ok-add_head.ensures c.in_ok-add.ensures.added c.in_ok-add_length.ensures c.add-2.ensures.added)
    (ap (λ (t : List ℕ). declared_text t (codes "[]") local created) (sym c.element_name.ensures))
