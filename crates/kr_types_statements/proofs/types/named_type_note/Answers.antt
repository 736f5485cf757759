use Rattle.std.proofs.Common.{◌∙◌, refl, ap, []}
use Rattle.std.specs.Prelude.{None}
use Rattle.kr_types_meaning.specs.Rules as rules
use Rattle.kr_types_meaning.specs.Noting.{concluded}
use Rattle.kr_types_scopes.specs.Settings.{setting}
use Rattle.kr_ast.specs.Files.{file_at}
use Rattle.kr_classes_members.specs.Shown.{table_in}
use Rattle.kr_types_statements.proofs.types.named_type_note.Goals as goal

pub type_rule-verdict-requires : goal.type_rule-verdict-requires
type_rule-verdict-requires c = (c.type_of_node-number.ensures (setting (table_in c.args.trees.now) [] (file_at c.args.trees.now c.args.file)) refl refl).within

pub returns-clause-within : goal.returns-clause-within
returns-clause-within c = c.conclude.ensures.within c.args.types.now c.type_rule-verdict.ensures.within

pub returns-clause-shown : goal.returns-clause-shown
returns-clause-shown c = λ s look e.
    let number = c.type_of_node-number.ensures (setting s.table [] (file_at c.args.trees.now c.args.file)) e refl in
    c.conclude.ensures.shown c.args.types.now look ∙ ap (λ (v : rules.Judgement). concluded c.args.place v None) (c.type_rule-verdict.ensures.says ∙ ap rules.type_rule number.type_is)
