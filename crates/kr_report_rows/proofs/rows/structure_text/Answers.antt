use Rattle.std.proofs.Common.{◌≡◌, ◌∙◌, List, ℕ, ap, map, refl, subst, sym}
use Rattle.std.specs.Prelude.{codes, IfSome}
use Rattle.kr_ast.specs.Arena.{Arena}
use Rattle.kr_base.specs.Told.{Added, Stopped, Writes}
use Rattle.kr_base.specs.Writing.{stopped_early, writes_exit, writes_then}
use Rattle.kr_classes_members.specs.Shown.{IsMethod}
use Rattle.kr_space_problem.specs.declared.problem.Problem.{Problem}
use Rattle.kr_space_problem.specs.Posed.{posed}
use Rattle.kr_value.specs.declared.value.Value.{Value}
use Rattle.kr_report.specs.Names.{names_of}
use Rattle.kr_report.specs.Texts.{joined_by, object_text, objects_named, structure_text, tested_parameters}
use Rattle.kr_report_rows.proofs.Meant.{arguments_laid}
use Rattle.kr_report_rows.proofs.rows.structure_text.Goals as goal

pub put_parameters-requires : goal.put_parameters-requires
put_parameters-requires g c =
    let files : c.as_slice-trees.result.now ≡ c.args.prepared.now.problem.program.trees.items = c.as_slice-trees.ensures.value ∙ ap (λ (p : Problem). p.program.trees.items) c.problem.ensures in
    subst (λ (fs : List Arena). IfSome c.method_under_test.result (IsMethod fs)) (sym files) c.method_under_test.ensures.stands

pub returns-in_err-put_parameters : goal.returns-in_err-put_parameters
unfolding structure_text
returns-in_err-put_parameters g c =
    let problem = posed c.args.prepared.now.problem in
    let slots = c.as_slice-slots.result.now in
    let files : c.as_slice-trees.result.now ≡ c.args.prepared.now.problem.program.trees.items = c.as_slice-trees.ensures.value ∙ ap (λ (p : Problem). p.program.trees.items) c.problem.ensures in
    let names : names_of c.as_slice-trees.result.now c.method_under_test.result ≡ tested_parameters problem = ap (λ (fs : List Arena). names_of fs c.method_under_test.result) files ∙ c.method_under_test.ensures.names in
    let P : List ℕ → Type 0 = λ text. Stopped g.K.Sink.taken g.K.Sink.faults c.args.out.now c.put_parameters.new.out text in
    writes_exit c.from_residual.result c.from_residual.ensures.0
    (subst (λ (s : List (ℕ × Value)). Stopped g.K.Sink.taken g.K.Sink.faults c.args.out.now c.put_parameters.new.out (structure_text problem s)) c.as_slice-slots.ensures
    (stopped_early (joined_by (codes " ") (map (object_text problem slots) (objects_named problem slots)))
    (subst P (arguments_laid problem c.layout-layout.result.now c.layout-layout.ensures.laid slots (names_of c.as_slice-trees.result.now c.method_under_test.result) names) c.in_err-put_parameters.ensures) refl))

pub returns : goal.returns
unfolding structure_text
returns g c =
    let problem = posed c.args.prepared.now.problem in
    let slots = c.as_slice-slots.result.now in
    let files : c.as_slice-trees.result.now ≡ c.args.prepared.now.problem.program.trees.items = c.as_slice-trees.ensures.value ∙ ap (λ (p : Problem). p.program.trees.items) c.problem.ensures in
    let names : names_of c.as_slice-trees.result.now c.method_under_test.result ≡ tested_parameters problem = ap (λ (fs : List Arena). names_of fs c.method_under_test.result) files ∙ c.method_under_test.ensures.names in
    let P : List ℕ → Type 0 = λ text. Added g.K.Sink.taken g.K.Sink.faults c.args.out.now c.put_parameters.new.out text in
    subst (λ (s : List (ℕ × Value)). Writes g.K.Sink.taken g.K.Sink.faults c.args.out.now c.put_objects.new.out (structure_text problem s) c.put_objects.result) c.as_slice-slots.ensures
    (writes_then c.put_objects.new.out (joined_by (codes " ") (map (object_text problem slots) (objects_named problem slots))) c.put_objects.result
    (subst P (arguments_laid problem c.layout-layout.result.now c.layout-layout.ensures.laid slots (names_of c.as_slice-trees.result.now c.method_under_test.result) names) c.in_ok-put_parameters.ensures)
    c.put_objects.ensures refl)
