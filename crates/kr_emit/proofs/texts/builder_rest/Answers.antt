use Rattle.std.proofs.Common.{◌++◌, ◌≡◌, ◌∙◌, List, ℕ, ap, sym}
use Rattle.std.specs.Prelude.{codes}
use Rattle.kr_emit_meaning.specs.Builders.{body_text, objects_in, rest_text}
use Rattle.kr_emit.proofs.Lines.{line_as, three_added}
use Rattle.kr_space_problem.specs.Posed.{posed}
use Rattle.kr_text.specs.Lines.{line_bytes}
use Rattle.kr_value.specs.declared.value.Value.{Value}
use Rattle.kr_emit.proofs.texts.builder_rest.Goals as goal

pub returns : goal.returns
returns c =
    let problem = posed c.args.prepared.now.problem in
    let structure = c.as_slice-structure.result.now in
    let objects = c.as_slice.result.now in
    let body = body_text problem structure objects in
    let old = line_bytes c.args.line.now in
    let new = line_bytes c.add-2.new.self in
    let named : objects ≡ objects_in structure = c.as_slice.ensures.value ∙ c.in_ok-objects.ensures in
    line_as c.add-2.result old new (codes "() {\n" ++ body ++ codes "    return o0;\n  }\n") (rest_text problem c.args.row.now)
    (three_added c.add-2.result old (line_bytes c.add.new.self) (line_bytes c.add_body.new.line) new (codes "() {\n") body (codes "    return o0;\n  }\n") c.in_ok-add.ensures.added c.in_ok-add_body.ensures c.add-2.ensures.added)
    (ap (λ (s : List (ℕ × Value)). codes "() {\n" ++ body_text problem s (objects_in s) ++ codes "    return o0;\n  }\n") (sym c.as_slice-structure.ensures)
    ∙ ap (λ (o : List ℕ). codes "() {\n" ++ body_text problem structure o ++ codes "    return o0;\n  }\n") (sym named))
