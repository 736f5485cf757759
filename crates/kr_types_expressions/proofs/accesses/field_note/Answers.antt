use Rattle.std.proofs.Common.{◌∙◌, sym, ap, ℕ}
use Rattle.std.specs.Prelude.{Option}
use Rattle.kr_types_meaning.specs.Rules as rules
use Rattle.kr_types_meaning.specs.Noting as noting
use Rattle.kr_types_scopes.specs.Settings.{scope_in}
use Rattle.kr_types_judging.specs.Shown.{note_shown}
use Rattle.kr_types_expressions.proofs.Asking.{judged_one}
use Rattle.kr_types_expressions.proofs.accesses.field_note.Goals as goal

pub returns-in-Some-clause-within : goal.returns-in-Some-clause-within
returns-in-Some-clause-within c = c.conclude.ensures.within c.args.classes.now.types.now c.constant_rule-verdict.ensures.within

pub returns-in-None-part_type-clause-within : goal.returns-in-None-part_type-clause-within
returns-in-None-part_type-clause-within c = c.plain.ensures.within c.args.classes.now.types.now

pub returns-in-Some-part_type-clause-within : goal.returns-in-Some-part_type-clause-within
returns-in-Some-part_type-clause-within c = c.conclude-in-Some-part_type.ensures.within c.args.classes.now.types.now c.access_rule.ensures.within

pub returns-in-Some-part_type-clause-shown : goal.returns-in-Some-part_type-clause-shown
returns-in-Some-part_type-clause-shown c = λ g bs look e.
    let l = c.args.classes.now.types.now in
    let s = scope_in g bs c.args.here in
    let x = note_shown l look c.args.x in
    judged_one c.args.place (rules.access_rule s c.args.name.now) x (c.access_rule.ensures.says g bs e) (c.in-Some-part_type.ensures.shown l look) (c.conclude-in-Some-part_type.ensures.shown l look)
    ∙ ap (λ (b : Option ℕ). noting.field_of s c.args.place c.args.name.now b x) (sym c.in-None.is)
