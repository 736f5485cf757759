use Rattle.kr_types_meaning.specs.Rules as rules
use Rattle.kr_types_scopes.specs.Settings.{scope_in}
use Rattle.kr_types_judging.specs.Shown.{note_shown}
use Rattle.kr_types_expressions.proofs.Asking.{judged_two}
use Rattle.kr_types_expressions.proofs.constructors.array_creation_note.Goals as goal

pub returns-in_ok-verdict-in-Some-Some-clause-within : goal.returns-in_ok-verdict-in-Some-Some-clause-within
returns-in_ok-verdict-in-Some-Some-clause-within c = c.conclude.ensures.within c.array_creation_rule.new.types c.in_ok-verdict-in-Some-Some.ensures.within

pub returns-in_ok-verdict-in-Some-Some-clause-shown : goal.returns-in_ok-verdict-in-Some-Some-clause-shown
returns-in_ok-verdict-in-Some-Some-clause-shown c = λ g bs look.
    let l = c.args.types.now in
    let p = c.in-Some-Some in
    judged_two c.args.place (rules.array_creation_rule (scope_in g bs c.args.here)) (note_shown l look c.args.x) (note_shown l look c.args.y) (c.in_ok-verdict-in-Some-Some.ensures.says g bs)
    (p.ensures.shown l look) (p.ensures'.shown l look) c.earlier-least.ensures (c.conclude.ensures.shown c.array_creation_rule.new.types look)

pub returns-in_default-clause-within : goal.returns-in_default-clause-within
returns-in_default-clause-within c = c.plain.ensures.within c.args.types.now
