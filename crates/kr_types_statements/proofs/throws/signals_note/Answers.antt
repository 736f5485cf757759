use Rattle.std.proofs.Common.{◌∙◌, ap}
use Rattle.kr_ast.specs.Arena.{tree_in}
use Rattle.kr_ast.specs.Files.{file_at}
use Rattle.kr_classes_table.specs.Types.{JavaType}
use Rattle.kr_types_meaning.specs.Rules as rules
use Rattle.kr_types_meaning.specs.Noting.{concluded}
use Rattle.kr_types_meaning.specs.Typing.{on_one}
use Rattle.kr_types_meaning.specs.Scopes.{caught_type}
use Rattle.kr_types_scopes.specs.Settings.{scope_in}
use Rattle.kr_types_judging.specs.Shown.{least_shown, note_shown, verdict_shown}
use Rattle.kr_types_expressions.proofs.Asking.{has_one}
use Rattle.kr_types_statements.proofs.throws.signals_note.Goals as goal

pub contract_rule-condition-requires : goal.contract_rule-condition-requires
contract_rule-condition-requires c = c.in-Some.ensures.within c.args.classes.now.types.now c.requires.condition

pub returns-in-None-clause-within : goal.returns-in-None-clause-within
returns-in-None-clause-within c = c.plain.ensures.within c.args.classes.now.types.now

pub returns-in-Some-clause-within : goal.returns-in-Some-clause-within
returns-in-Some-clause-within c = let l = c.args.classes.now.types.now in c.conclude.ensures.within l (c.and.ensures.within l c.caught_rule-class.ensures.within)

pub returns-in-Some-clause-shown : goal.returns-in-Some-clause-shown
returns-in-Some-clause-shown c = λ g bs look e.
    let p = c.args.place in
    let k = c.args.classes.now in
    let l = k.types.now in
    let s = scope_in g bs c.args.here in
    let y = note_shown l look c.args.y in
    let rule : JavaType → JavaType → rules.Judgement = λ class t. rules.then_rule (rules.contract_rule s t) (rules.caught_rule s 43 class) in
    let class = caught_type s (tree_in (file_at k.trees.now c.args.file) c.args.declared) in
    let says = c.and.ensures.says l
    ∙ ap (λ (v : rules.Judgement). rules.then_rule v (verdict_shown l c.caught_rule-class.result)) (c.contract_rule-condition.ensures.says k.trees.now g bs c.requires.classes.members e)
    ∙ ap (rules.then_rule _) (c.caught_rule-class.ensures.says s e ∙ ap (rules.caught_rule s 43) (c.caught_type-caught.ensures.is s e)) in
    c.conclude.ensures.shown l look
    ∙ ap (λ (v : rules.Judgement). concluded p v (least_shown c.earlier-least.result)) (has_one (rule class) y.typed says (c.in-Some.ensures.shown l look))
    ∙ ap (concluded p (on_one (rule class) y.typed)) c.earlier-least.ensures
