use Rattle.std.proofs.Common.{◌∙◌, ap}
use Rattle.std.specs.Prelude.{Option}
use Rattle.kr_classes_table.specs.Rules.{Fault, sooner}
use Rattle.kr_types_meaning.specs.Rules as rules
use Rattle.kr_types_meaning.specs.Typing.{on_maybe}
use Rattle.kr_types_meaning.specs.Noting.{concluded}
use Rattle.kr_types_judging.specs.Shown.{known_shown, least_shown}
use Rattle.kr_types_statements.proofs.classes.constructor_note.Goals as goal

pub returns-clause-within : goal.returns-clause-within
returns-clause-within c = c.conclude.ensures.within c.args.classes.now.types.now c.constructor_verdict-verdict.ensures.within

pub returns-clause-shown : goal.returns-clause-shown
returns-clause-shown c = λ s look e single k linked.
    let l = c.args.classes.now.types.now in
    c.conclude.ensures.shown l look
    ∙ ap (λ (v : rules.Judgement). concluded c.args.place v (least_shown c.earlier.result)) (c.constructor_verdict-verdict.ensures.says s look e single k linked)
    ∙ ap (concluded c.args.place (on_maybe (λ t. rules.implied_rule s) (known_shown l look c.args.call.known))) (c.earlier.ensures ∙ ap (λ (o : Option Fault). sooner o (least_shown c.args.body.least)) c.earlier-head.ensures)
