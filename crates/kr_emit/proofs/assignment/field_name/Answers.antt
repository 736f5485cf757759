use Rattle.std.proofs.Common.{◌≡◌, ◌∙◌, [], List, ap, get_or, subst, sym}
use Rattle.std.specs.Prelude.{All}
use Rattle.kr_ast.specs.Arena.{Arena}
use Rattle.kr_classes_members.specs.Shown.{IsField, table_in}
use Rattle.kr_classes_table.specs.Table.{fields_of}
use Rattle.kr_emit.proofs.FieldsAt.{name_at}
use Rattle.kr_report.specs.Texts.{field_names}
use Rattle.kr_space_problem.specs.declared.problem.Problem.{Problem}
use Rattle.kr_space_problem.specs.Posed.{posed}
use Rattle.kr_value.specs.declared.object.Class.{Class}
use Rattle.kr_emit.proofs.assignment.field_name.Goals as goal

pub field_name_among-requires : goal.field_name_among-requires
field_name_among-requires c =
    let files : c.as_slice-trees.result.now ≡ c.args.prepared.now.problem.program.trees.items = c.as_slice-trees.ensures.value ∙ ap (λ (p : Problem). p.program.trees.items) c.problem.ensures in
    subst (λ (fs : List Arena). All (IsField fs) c.fields.result.now) (sym files) c.fields.ensures.fields

pub returns-in-Object : goal.returns-in-Object
returns-in-Object c =
    let trees = c.args.prepared.now.problem.program.trees.items in
    let files : c.as_slice-trees.result.now ≡ trees = c.as_slice-trees.ensures.value ∙ ap (λ (p : Problem). p.program.trees.items) c.problem.ensures in
    c.field_name_among.ensures
    ∙ (name_at c.as_slice-trees.result.now trees c.fields.result.now (fields_of (table_in trees) c.in-Object.number) c.args.position files c.fields.ensures.shown
    ∙ ap (λ (k : Class). get_or (field_names (posed c.args.prepared.now.problem).program.table k) c.args.position []) (sym c.in-Object.is))
