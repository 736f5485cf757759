use Rattle.std.proofs.Common.{◌∙◌, refl, ap, []}
use Rattle.kr_classes_table.specs.Types.{JavaType}
use Rattle.kr_classes_table.specs.Table.{applied}
use Rattle.kr_types_meaning.specs.Rules as rules
use Rattle.kr_types_meaning.specs.Noting.{one}
use Rattle.kr_types_scopes.specs.Settings.{setting}
use Rattle.kr_ast.specs.Files.{file_at}
use Rattle.kr_classes_members.specs.Shown.{table_in}
use Rattle.kr_classes_names.specs.Types.{type_at}
use Rattle.kr_types_judging.specs.Shown.{note_shown}
use Rattle.kr_types_expressions.proofs.Asking.{judged_one}
use Rattle.kr_types_statements.proofs.types.generic_type_note.Goals as goal

pub applied-requires-clause-head : goal.applied-requires-clause-head
applied-requires-clause-head c = (c.type_of_node-number.ensures (setting (table_in c.args.trees.now) [] (file_at c.args.trees.now c.args.file)) refl refl).within

pub returns-in-None-clause-within : goal.returns-in-None-clause-within
returns-in-None-clause-within c = c.plain.ensures.within c.args.types.now

pub returns-in_ok-made-in-Some-clause-within : goal.returns-in_ok-made-in-Some-clause-within
returns-in_ok-made-in-Some-clause-within c = c.conclude.ensures.within c.applied.new.self c.type_rule.ensures.within

pub returns-in_ok-made-in-Some-clause-shown : goal.returns-in_ok-made-in-Some-clause-shown
returns-in_ok-made-in-Some-clause-shown c = λ s look e.
    let l = c.args.types.now in
    let x = note_shown l look c.args.x in
    let f : JavaType → JavaType → rules.Judgement = λ h t. rules.type_rule (applied h t) in
    let number = c.type_of_node-number.ensures (setting s.table [] (file_at c.args.trees.now c.args.file)) e refl in
    judged_one c.args.place (f (type_at l c.type_of_node-number.result)) x (c.type_rule.ensures.says ∙ ap rules.type_rule c.in_ok-made-in-Some.ensures.number.type_is) (c.in-Some.ensures.shown l look) (c.conclude.ensures.shown c.applied.new.self look)
    ∙ ap (λ (h : JavaType). one c.args.place (f h) x) number.type_is
