use Rattle.std.proofs.Common.{◌∙◌, refl, ap, []}
use Rattle.kr_types_meaning.specs.Rules as rules
use Rattle.kr_types_meaning.specs.Noting.{concluded}
use Rattle.kr_types_scopes.specs.Settings.{scope_in, setting}
use Rattle.kr_ast.specs.Files.{file_at}
use Rattle.kr_classes_members.specs.Shown.{table_in}
use Rattle.kr_types_judging.specs.Shown.{least_shown}
use Rattle.kr_types_statements.proofs.results.return_note.Goals as goal

pub return_verdict-verdict-requires-clause-result_type : goal.return_verdict-verdict-requires-clause-result_type
return_verdict-verdict-requires-clause-result_type c = (c.type_of_node-number.ensures (setting (table_in c.args.classes.now.trees.now) [] (file_at c.args.classes.now.trees.now c.args.file)) refl refl).within

pub return_verdict-verdict-requires-clause-value : goal.return_verdict-verdict-requires-clause-value
return_verdict-verdict-requires-clause-value c = c.maybe_type-value.ensures.within c.args.classes.now.types.now c.requires.value

pub returns-clause-within : goal.returns-clause-within
returns-clause-within c = c.conclude.ensures.within c.args.classes.now.types.now c.return_verdict-verdict.ensures.within

pub returns-clause-shown : goal.returns-clause-shown
returns-clause-shown c = λ g bs look e t linked.
    let l = c.args.classes.now.types.now in
    let number = c.type_of_node-number.ensures g e t in
    c.conclude.ensures.shown l look
    ∙ ap (λ (v : rules.Judgement). concluded c.args.place v (least_shown c.args.x.least))
    (c.return_verdict-verdict.ensures.says c.args.classes.now.trees.now g bs c.requires.classes.members e number.type_is ∙ c.maybe_type-value.ensures.shown l look (rules.return_rule (scope_in g bs c.args.here)) linked)
