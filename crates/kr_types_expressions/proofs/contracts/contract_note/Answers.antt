use Rattle.kr_types_meaning.specs.Rules as rules
use Rattle.kr_types_scopes.specs.Settings.{scope_in}
use Rattle.kr_types_judging.specs.Shown.{note_shown}
use Rattle.kr_types_expressions.proofs.Asking.{judged_one}
use Rattle.kr_types_expressions.proofs.contracts.contract_note.Goals as goal

pub returns-in-None-clause-within : goal.returns-in-None-clause-within
returns-in-None-clause-within c = c.plain.ensures.within c.args.types.now

pub returns-in-Some-clause-within : goal.returns-in-Some-clause-within
returns-in-Some-clause-within c = c.conclude.ensures.within c.args.types.now c.contract_rule.ensures.within

pub returns-in-Some-clause-shown : goal.returns-in-Some-clause-shown
returns-in-Some-clause-shown c = λ files g bs look h e.
    let l = c.args.types.now in
    judged_one c.args.place (rules.contract_rule (scope_in g bs c.args.here)) (note_shown l look c.args.x) (c.contract_rule.ensures.says files g bs h e) (c.in-Some.ensures.shown l look) (c.conclude.ensures.shown l look)
