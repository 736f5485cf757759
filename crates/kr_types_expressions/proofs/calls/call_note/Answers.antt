use Rattle.std.specs.Prelude.{option_map}
use Rattle.kr_classes_members.specs.Shown.{method_shown}
use Rattle.kr_types_meaning.specs.Rules as rules
use Rattle.kr_types_scopes.specs.Settings.{scope_in}
use Rattle.kr_types_judging.specs.Shown.{note_shown}
use Rattle.kr_types_expressions.specs.Notes.{typed_in}
use Rattle.kr_types_expressions.proofs.Asking.{judged_list}
use Rattle.kr_types_expressions.proofs.calls.call_note.Goals as goal

pub returns-in-None-clause-within : goal.returns-in-None-clause-within
returns-in-None-clause-within c = c.plain.ensures.within c.args.classes.now.types.now

pub returns-in-Some-clause-within : goal.returns-in-Some-clause-within
returns-in-Some-clause-within c = c.conclude.ensures.within c.args.classes.now.types.now c.call_rule-verdict.ensures.within

pub returns-in-Some-clause-shown : goal.returns-in-Some-clause-shown
returns-in-Some-clause-shown c = λ g bs e.
    let l = c.args.classes.now.types.now in
    let look = typed_in l c.args.notes.now in
    judged_list l c.args.place (rules.call_rule (scope_in g bs c.args.here) (option_map (method_shown c.args.classes.now.trees.now) c.args.found)) (note_shown l look c.args.x) (c.call_rule-verdict.ensures.says g bs e) c.deref.ensures.value c.in-Some.is c.in_ok-arguments.ensures.shown (c.conclude.ensures.shown l look)
