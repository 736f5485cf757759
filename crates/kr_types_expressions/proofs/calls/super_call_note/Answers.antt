use Rattle.kr_types_meaning.specs.Rules as rules
use Rattle.kr_types_scopes.specs.Settings.{scope_in}
use Rattle.kr_types_judging.specs.Shown.{note_shown}
use Rattle.kr_types_expressions.specs.Notes.{typed_in}
use Rattle.kr_types_expressions.proofs.Asking.{judged_list}
use Rattle.kr_types_expressions.proofs.calls.super_call_note.Goals as goal

pub returns-in-None-clause-within : goal.returns-in-None-clause-within
returns-in-None-clause-within c = c.plain.ensures.within c.args.classes.now.types.now

pub returns-in-Some-clause-within : goal.returns-in-Some-clause-within
returns-in-Some-clause-within c = c.conclude.ensures.within c.args.classes.now.types.now c.super_rule-verdict.ensures.within

pub returns-in-Some-clause-shown : goal.returns-in-Some-clause-shown
returns-in-Some-clause-shown c = λ g bs n e k.
    let l = c.args.classes.now.types.now in
    let look = typed_in l c.args.notes.now in
    judged_list l c.args.place (rules.super_rule (scope_in g bs c.args.here) n) (note_shown l look c.args.x) (c.super_rule-verdict.ensures.says g bs n e k) c.deref.ensures.value c.in-Some.is c.in_ok-arguments.ensures.shown (c.conclude.ensures.shown l look)
