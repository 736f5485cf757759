use Rattle.std.proofs.Common.{refl}
use Rattle.kr_types_meaning.specs.Noting as noting
use Rattle.kr_types_meaning.specs.Rules as rules
use Rattle.kr_types_expressions.specs.Notes.{typed_in}
use Rattle.kr_types.specs.Programs.{setting_in}
use Rattle.kr_types.proofs.Making.{of_one, of_two}
use Rattle.kr_types.proofs.expressions.write_note.Goals as goal

pub returns-in-Step : goal.returns-in-Step
returns-in-Step c =
    let s = c.args.context.now.site in
    let l = c.args.context.now.types.now in
    of_one s l c.args.context.now.notes.now c.args.context.now.spot (λ v x. noting.one c.args.context.now.spot.place (rules.step_rule v x.typed) x) _ _ _ _ _ c.here.ensures c.in-Step.is c.step_note.ensures.within c.step_note.ensures.no_rest
    (c.step_note.ensures.shown s.trees.now (setting_in s.trees.now s.file) s.scopes.now.bindings.items (typed_in l c.args.context.now.notes.now) c.requires.context.site.members refl) c.part-x.ensures.shown refl

pub returns-in-Assignment : goal.returns-in-Assignment
returns-in-Assignment c =
    let s = c.args.context.now.site in
    let l = c.args.context.now.types.now in
    of_two s l c.args.context.now.notes.now c.args.context.now.spot (λ v x y. noting.two c.args.context.now.spot.place (rules.assignment_rule v x.typed) x y) _ _ _ _ _ _ _ c.here-in-Assignment.ensures c.in-Assignment.is c.assignment_note.ensures.within c.assignment_note.ensures.no_rest
    (c.assignment_note.ensures.shown s.trees.now (setting_in s.trees.now s.file) s.scopes.now.bindings.items (typed_in l c.args.context.now.notes.now) c.requires.context.site.members refl) c.part-x-in-Assignment.ensures.shown c.part-y.ensures.shown refl

pub returns-in-CompoundAssignment : goal.returns-in-CompoundAssignment
returns-in-CompoundAssignment c =
    let s = c.args.context.now.site in
    let l = c.args.context.now.types.now in
    of_two s l c.args.context.now.notes.now c.args.context.now.spot (λ v x y. noting.two c.args.context.now.spot.place (rules.compound_rule v c.in-CompoundAssignment.operator x.typed) x y) _ _ _ _ _ _ _ c.here-in-CompoundAssignment.ensures c.in-CompoundAssignment.is c.compound_note.ensures.within c.compound_note.ensures.no_rest
    (c.compound_note.ensures.shown s.trees.now (setting_in s.trees.now s.file) s.scopes.now.bindings.items (typed_in l c.args.context.now.notes.now) c.requires.context.site.members refl) c.part-x-in-CompoundAssignment.ensures.shown c.part-y-in-CompoundAssignment.ensures.shown refl
