use Rattle.std.proofs.Common.{◌∙◌, List, ℕ, [], ap, append_assoc, sym}
use Rattle.std.specs.Prelude.{codes}
use Rattle.kr_emit_meaning.specs.Builders.{class_text, declared_text, local_text}
use Rattle.kr_emit.proofs.Lines.{line_then}
use Rattle.kr_emit.specs.Makings.{head_text}
use Rattle.kr_emit.specs.TypeNames.{type_name}
use Rattle.kr_space_problem.specs.Posed.{posed}
use Rattle.kr_text.specs.Lines.{line_bytes}
use Rattle.kr_emit.proofs.creation.add_new_object.Goals as goal

pub returns : goal.returns
returns c =
    let type = class_text (posed c.args.problem.now).program.table.headings c.args.class in
    let local = local_text c.args.objects.now c.args.object in
    let head = head_text (type_name c.class_name.result) [] local in
    line_then c.add.result (line_bytes c.args.line.now) (line_bytes c.add_head.new.line) (line_bytes c.add.new.self) head (codes "();\n") (declared_text type [] local (codes "()")) c.in_ok-add_head.ensures c.add.ensures.added
    (ap (λ (t : List ℕ). declared_text t [] local (codes "()")) (sym c.class_name.ensures) ∙ append_assoc head (codes "()") (codes ";\n"))
