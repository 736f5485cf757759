use Rattle.std.proofs.Common.{◌∙◌, refl, ap, []}
use Rattle.std.specs.Prelude.{None}
use Rattle.kr_types_meaning.specs.Rules as rules
use Rattle.kr_types_meaning.specs.Noting.{concluded}
use Rattle.kr_types_scopes.specs.Settings.{setting}
use Rattle.kr_ast.specs.Files.{file_at}
use Rattle.kr_classes_members.specs.Shown.{table_in}
use Rattle.kr_types_statements.proofs.results.result_note.Goals as goal

pub result_value_rule-verdict-requires : goal.result_value_rule-verdict-requires
result_value_rule-verdict-requires c = (c.type_of_node-number.ensures (setting (table_in c.args.classes.now.trees.now) [] (file_at c.args.classes.now.trees.now c.args.file)) refl refl).within

pub returns-clause-within : goal.returns-clause-within
returns-clause-within c = c.conclude.ensures.within c.args.classes.now.types.now c.result_value_rule-verdict.ensures.within

pub returns-clause-shown : goal.returns-clause-shown
returns-clause-shown c = λ g bs look e t.
    let number = c.type_of_node-number.ensures g e t in
    c.conclude.ensures.shown c.args.classes.now.types.now look ∙ ap (λ (v : rules.Judgement). concluded c.args.place v None) (c.result_value_rule-verdict.ensures.says g bs number.type_is)
