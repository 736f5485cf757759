use Rattle.std.proofs.Common.{◌∙◌, ap}
use Rattle.kr_classes_table.specs.Rules.{sooner}
use Rattle.kr_types_meaning.specs.Rules as rules
use Rattle.kr_types_meaning.specs.Noting.{concluded}
use Rattle.kr_types_scopes.specs.Settings.{scope_in}
use Rattle.kr_types_judging.specs.Shown.{note_shown, typed_shown}
use Rattle.kr_types_expressions.proofs.Asking.{judged_two}
use Rattle.kr_types_statements.proofs.Targets.{assignment_target}
use Rattle.kr_types_statements.proofs.writes.assignment_note.Goals as goal

pub returns-in-Some-Some-clause-within : goal.returns-in-Some-Some-clause-within
returns-in-Some-Some-clause-within c = c.conclude.ensures.within c.args.types.now c.assignment_rule-verdict.ensures.within

pub returns-in_default-clause-within : goal.returns-in_default-clause-within
returns-in_default-clause-within c = c.plain.ensures.within c.args.types.now

pub returns-in-Some-Some-clause-shown : goal.returns-in-Some-Some-clause-shown
returns-in-Some-Some-clause-shown c = λ files g bs look h e.
    let l = c.args.types.now in
    let s = scope_in g bs c.args.here in
    let x = note_shown l look c.args.x in
    let y = note_shown l look c.args.y in
    let target = typed_shown l c.target_of-target.result in
    judged_two c.args.place (rules.assignment_rule s target) x y (c.assignment_rule-verdict.ensures.says files g bs h e) (c.in-Some-Some.ensures.shown l look) (c.in-Some-Some.ensures'.shown l look) c.earlier-least.ensures (c.conclude.ensures.shown l look)
    ∙ ap (λ (v : rules.Judgement). concluded c.args.place v (sooner x.least y.least)) (assignment_target s target x.typed x.typed y.typed (c.target_of-target.ensures l look))
