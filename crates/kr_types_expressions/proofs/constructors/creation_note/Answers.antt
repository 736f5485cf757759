use Rattle.kr_types_meaning.specs.Rules as rules
use Rattle.kr_types_scopes.specs.Settings.{scope_in}
use Rattle.kr_types_judging.specs.Shown.{note_shown}
use Rattle.kr_types_expressions.specs.Notes.{typed_in}
use Rattle.kr_types_expressions.proofs.Asking.{judged_one_and_list}
use Rattle.kr_types_expressions.proofs.constructors.creation_note.Goals as goal

pub returns-in-None-clause-within : goal.returns-in-None-clause-within
returns-in-None-clause-within c = c.plain.ensures.within c.args.classes.now.types.now

pub returns-in-None-part_type-clause-within : goal.returns-in-None-part_type-clause-within
returns-in-None-part_type-clause-within c = c.plain-in-None-part_type.ensures.within c.args.classes.now.types.now

pub returns-clause-within : goal.returns-clause-within
returns-clause-within c = c.conclude.ensures.within c.args.classes.now.types.now c.creation_rule-verdict.ensures.within

pub returns-clause-shown : goal.returns-clause-shown
returns-clause-shown c = λ g bs e single.
    let l = c.args.classes.now.types.now in
    let look = typed_in l c.args.notes.now in
    judged_one_and_list l c.args.place (rules.creation_rule (scope_in g bs c.args.here)) (note_shown l look c.args.x) (note_shown l look c.args.y) (c.creation_rule-verdict.ensures.says g bs e single)
    (c.in-Some-part_type.ensures.shown l look) c.deref.ensures.value c.in-Some.is c.in_ok-arguments.ensures.shown c.earlier-least.ensures (c.conclude.ensures.shown l look)
