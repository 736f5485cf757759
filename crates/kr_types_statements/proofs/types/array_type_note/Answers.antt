use Rattle.std.proofs.Common.{◌∙◌, ap}
use Rattle.kr_classes_table.specs.Types.{JavaType}
use Rattle.kr_types_meaning.specs.Rules as rules
use Rattle.kr_types_judging.specs.Shown.{note_shown}
use Rattle.kr_types_expressions.proofs.Asking.{judged_one}
use Rattle.kr_types_statements.proofs.types.array_type_note.Goals as goal

pub returns-in-None-clause-within : goal.returns-in-None-clause-within
returns-in-None-clause-within c = c.plain.ensures.within c.args.types.now

pub returns-in_ok-number-in-Some-clause-within : goal.returns-in_ok-number-in-Some-clause-within
returns-in_ok-number-in-Some-clause-within c = let l = c.number.new.self in c.conclude.ensures.within l (c.value.ensures.within l c.in_ok-number-in-Some.ensures.number.within)

pub returns-in_ok-number-in-Some-clause-shown : goal.returns-in_ok-number-in-Some-clause-shown
returns-in_ok-number-in-Some-clause-shown c = λ look.
    let l = c.args.types.now in
    let new = c.number.new.self in
    judged_one c.args.place rules.array_rule (note_shown l look c.args.x) (c.value.ensures.says new ∙ ap (λ (t : JavaType). rules.Fits (rules.Value t)) c.in_ok-number-in-Some.ensures.number.type_is) (c.in-Some.ensures.shown l look) (c.conclude.ensures.shown new look)
