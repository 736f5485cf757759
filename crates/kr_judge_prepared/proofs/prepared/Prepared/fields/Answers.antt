use Rattle.std.proofs.Common.{◌≡◌, ◌∙◌, ap, sym, subst, List, get_or, [], map}
use Rattle.std.specs.Prelude.{All, Vec}
use Rattle.std.specs.declared.alloc.Global.{Global}
use Rattle.kr_classes_table.specs.Table.{fields_of}
use Rattle.kr_classes_members.specs.declared.fields.Field.{Field}
use Rattle.kr_classes_members.specs.Shown.{IsField, field_shown, table_in}
use Rattle.kr_judge_prepared.specs.Preparing.{Ready}
use Rattle.kr_judge_prepared.specs.Fields.{rows_of}
use Rattle.kr_judge_prepared.proofs.Rows.{all_at}
use Rattle.kr_judge_prepared.proofs.prepared.Prepared.fields.Goals as goal

pub returns-clause-fields : goal.returns-clause-fields
returns-clause-fields c =
    let trees = c.self.inside.accepted.program.trees.items in
    let at : c.fields_at.result.now ≡ get_or (rows_of c.self.inside.rows.items) c.args.class [] = c.fields_at.ensures ∙ ap (λ (rows : List (Vec Field Global)). get_or (rows_of rows) c.args.class []) c.as_slice.ensures.value in
    subst (λ (p : Ready). All (IsField p.problem.program.trees.items) c.fields_at.result.now) c.self.view_is
    (subst (All (IsField trees)) (sym at) (all_at trees (rows_of c.self.inside.rows.items) c.args.class c.self.invariant.fields))

pub returns-clause-shown : goal.returns-clause-shown
returns-clause-shown c =
    let trees = c.self.inside.accepted.program.trees.items in
    let at : c.fields_at.result.now ≡ get_or (rows_of c.self.inside.rows.items) c.args.class [] = c.fields_at.ensures ∙ ap (λ (rows : List (Vec Field Global)). get_or (rows_of rows) c.args.class []) c.as_slice.ensures.value in
    subst (λ (p : Ready). map (field_shown p.problem.program.trees.items) c.fields_at.result.now ≡ fields_of (table_in p.problem.program.trees.items) c.args.class) c.self.view_is
    (ap (map (field_shown trees)) at ∙ c.self.invariant.fields.shown c.args.class)
