use Rattle.std.proofs.Common.{refl}
use Rattle.kr_types_meaning.specs.Noting as noting
use Rattle.kr_types_meaning.specs.Rules as rules
use Rattle.kr_types_expressions.specs.Notes.{typed_in}
use Rattle.kr_types.specs.Programs.{setting_in}
use Rattle.kr_types.proofs.Making.{of_two, of_three}
use Rattle.kr_types.proofs.expressions.operation_note.Goals as goal

pub returns-in-Binary : goal.returns-in-Binary
returns-in-Binary c =
    let s = c.args.context.now.site in
    let l = c.args.context.now.types.now in
    of_two s l c.args.context.now.notes.now c.args.context.now.spot (λ v. noting.two c.args.context.now.spot.place (rules.operator_rule v c.in-Binary.operator)) _ _ _ _ _ _ _ c.here.ensures c.in-Binary.is c.binary_note.ensures.within c.binary_note.ensures.no_rest
    (c.binary_note.ensures.shown s.trees.now (setting_in s.trees.now s.file) s.scopes.now.bindings.items (typed_in l c.args.context.now.notes.now) c.requires.context.site.members refl) c.part-x-in-Binary.ensures.shown c.part-y.ensures.shown refl

pub returns-in-InstanceOf : goal.returns-in-InstanceOf
returns-in-InstanceOf c =
    let s = c.args.context.now.site in
    let l = c.args.context.now.types.now in
    of_two s l c.args.context.now.notes.now c.args.context.now.spot (λ v. noting.two c.args.context.now.spot.place (rules.instance_rule v)) _ _ _ _ _ _ _ c.here-in-InstanceOf.ensures c.in-InstanceOf.is c.instance_note.ensures.within c.instance_note.ensures.no_rest
    (c.instance_note.ensures.shown s.trees.now (setting_in s.trees.now s.file) s.scopes.now.bindings.items (typed_in l c.args.context.now.notes.now) c.requires.context.site.members refl) c.part-x-in-InstanceOf.ensures.shown c.part-y-in-InstanceOf.ensures.shown refl

pub returns-in-Cast : goal.returns-in-Cast
returns-in-Cast c =
    let s = c.args.context.now.site in
    let l = c.args.context.now.types.now in
    of_two s l c.args.context.now.notes.now c.args.context.now.spot (λ v. noting.two c.args.context.now.spot.place (rules.cast_rule v)) _ _ _ _ _ _ _ c.here-in-Cast.ensures c.in-Cast.is c.cast_note.ensures.within c.cast_note.ensures.no_rest
    (c.cast_note.ensures.shown s.trees.now (setting_in s.trees.now s.file) s.scopes.now.bindings.items (typed_in l c.args.context.now.notes.now) c.requires.context.site.members refl) c.part-x-in-Cast.ensures.shown c.part-y-in-Cast.ensures.shown refl

pub returns-in-Conditional : goal.returns-in-Conditional
returns-in-Conditional c =
    let s = c.args.context.now.site in
    let l = c.args.context.now.types.now in
    of_three s l c.args.context.now.notes.now c.args.context.now.spot (λ v. noting.three c.args.context.now.spot.place (rules.choice_rule v)) _ _ _ _ _ _ _ _ _ c.here-in-Conditional.ensures c.in-Conditional.is c.choice_note.ensures.within c.choice_note.ensures.no_rest
    (c.choice_note.ensures.shown s.trees.now (setting_in s.trees.now s.file) s.scopes.now.bindings.items (typed_in l c.args.context.now.notes.now) c.requires.context.site.members refl) c.part-x-in-Conditional.ensures.shown c.part-y-in-Conditional.ensures.shown c.part-z.ensures.shown refl
