use Rattle.std.proofs.Common.{◌∙◌, ap}
use Rattle.std.specs.Prelude.{Option}
use Rattle.kr_classes_table.specs.Rules.{Fault, sooner}
use Rattle.kr_types_meaning.specs.Rules as rules
use Rattle.kr_types_scopes.specs.Settings.{scope_in}
use Rattle.kr_types_judging.specs.Shown.{least_shown, note_shown}
use Rattle.kr_types_expressions.proofs.Asking.{judged_three}
use Rattle.kr_types_expressions.proofs.choices.choice_note.Goals as goal

pub returns-in-Some-Some-Some-clause-within : goal.returns-in-Some-Some-Some-clause-within
returns-in-Some-Some-Some-clause-within c = c.conclude.ensures.within c.args.types.now c.choice_rule.ensures.within

pub returns-in-Some-Some-Some-clause-shown : goal.returns-in-Some-Some-Some-clause-shown
returns-in-Some-Some-Some-clause-shown c = λ files g bs look h e.
    let l = c.args.types.now in
    let p = c.in-Some-Some-Some in
    judged_three c.args.place (rules.choice_rule (scope_in g bs c.args.here)) (note_shown l look c.args.x) (note_shown l look c.args.y) (note_shown l look c.args.z) (c.choice_rule.ensures.says files g bs h e)
    (p.ensures.shown l look) (p.ensures'.shown l look) (p.ensures''.shown l look)
    (c.earlier-least.ensures ∙ ap (λ (o : Option Fault). sooner o (least_shown c.args.z.least)) c.earlier-sides.ensures) (c.conclude.ensures.shown l look)

pub returns-in_default-clause-within : goal.returns-in_default-clause-within
returns-in_default-clause-within c = c.plain.ensures.within c.args.types.now
