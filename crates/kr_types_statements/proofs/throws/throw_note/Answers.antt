use Rattle.kr_types_meaning.specs.Rules as rules
use Rattle.kr_types_judging.specs.Shown.{note_shown}
use Rattle.kr_types_expressions.proofs.Asking.{judged_one}
use Rattle.kr_types_statements.proofs.throws.throw_note.Goals as goal

pub throw_rule-requires-clause-thrown : goal.throw_rule-requires-clause-thrown
throw_rule-requires-clause-thrown c = c.in-Some.ensures.within c.args.classes.now.types.now c.requires.thrown

pub returns-in-None-clause-within : goal.returns-in-None-clause-within
returns-in-None-clause-within c = c.plain.ensures.within c.args.classes.now.types.now

pub returns-in-Some-clause-within : goal.returns-in-Some-clause-within
returns-in-Some-clause-within c = c.conclude.ensures.within c.args.classes.now.types.now c.throw_rule.ensures.within

pub returns-in-Some-clause-shown : goal.returns-in-Some-clause-shown
returns-in-Some-clause-shown c = λ s look e.
    let l = c.args.classes.now.types.now in
    judged_one c.args.place (rules.throw_rule s) (note_shown l look c.args.x) (c.throw_rule.ensures.says s e) (c.in-Some.ensures.shown l look) (c.conclude.ensures.shown l look)
