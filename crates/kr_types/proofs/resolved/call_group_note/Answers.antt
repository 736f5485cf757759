use Rattle.std.proofs.Common.{refl, ap, ◌∙◌}
use Rattle.std.specs.Prelude.{Option}
use Rattle.kr_ast.specs.Arena.{name_in}
use Rattle.kr_classes_table.specs.Table.{Method}
use Rattle.kr_classes_members.specs.Shown.{table_in}
use Rattle.kr_types_meaning.specs.Rules as rules
use Rattle.kr_types_meaning.specs.Scopes.{method_meant}
use Rattle.kr_types_meaning.specs.Noting as noting
use Rattle.kr_types_scopes.specs.declared.within.Within.{Within}
use Rattle.kr_types_judging.specs.Shown.{note_shown}
use Rattle.kr_types_expressions.specs.Notes.{shown_notes, typed_in}
use Rattle.kr_types.specs.Programs.{setting_in}
use Rattle.kr_types.specs.Sites.{scope_here, tree_there}
use Rattle.kr_types.proofs.Making.{of_if}
use Rattle.kr_types.proofs.Meant.{own_found, super_found}
use Rattle.kr_types.proofs.resolved.call_group_note.Goals as goal

pub method_at-requires-clause-found : goal.method_at-requires-clause-found
method_at-requires-clause-found c = c.method.ensures.within (table_in c.args.context.now.site.trees.now) c.requires.meant.within

pub method_at-requires-in-SuperCall-clause-found : goal.method_at-requires-in-SuperCall-clause-found
method_at-requires-in-SuperCall-clause-found c = c.super_method.ensures.within (table_in c.args.context.now.site.trees.now) c.requires.meant.within

pub returns-in-Call : goal.returns-in-Call
returns-in-Call c =
    let s = c.args.context.now.site in
    let l = c.args.context.now.types.now in
    let ns = c.args.context.now.notes.now in
    let p = c.args.context.now.spot.place in
    let w = c.here.result in
    let n = name_in (tree_there s).text c.in-Call.name in
    let found = c.method_at.ensures.shown ∙ (c.method.ensures.shown (table_in s.trees.now) ∙ own_found s (shown_notes l ns) c.args.context.now.spot.at p c.args.context.now.spot.node w c.args.meaning c.requires.context.spot.tree c.here.ensures c.requires.meant c.in-Call.name c.in-Call.arguments c.in-Call.is) in
    of_if s l ns c.args.context.now.spot c.call_note.result _ (λ v. noting.list p (rules.call_rule v (method_meant v n)) (noting.note_at (shown_notes l ns) c.in-Call.arguments)) _ _ c.here.ensures c.in-Call.is c.call_note.ensures.within c.call_note.ensures.no_rest c.call_note.ensures.shown
    (λ made h. h (setting_in s.trees.now s.file) s.scopes.now.bindings.items refl
    ∙ ap (λ (m : Option Method). noting.list p (rules.call_rule (scope_here s w) m) (note_shown l (typed_in l ns) c.part.result)) found
    ∙ ap (noting.list p (rules.call_rule (scope_here s w) (method_meant (scope_here s w) n))) c.part.ensures.shown) refl

pub returns-in-SuperCall : goal.returns-in-SuperCall
returns-in-SuperCall c =
    let s = c.args.context.now.site in
    let l = c.args.context.now.types.now in
    let ns = c.args.context.now.notes.now in
    let p = c.args.context.now.spot.place in
    let w = c.here-in-SuperCall.result in
    let n = name_in (tree_there s).text c.in-SuperCall.name in
    let found = c.method_at-in-SuperCall.ensures.shown ∙ (c.super_method.ensures.shown (table_in s.trees.now) ∙ super_found s (shown_notes l ns) c.args.context.now.spot.at p c.args.context.now.spot.node w c.args.meaning c.requires.context.spot.tree c.here-in-SuperCall.ensures c.requires.meant c.in-SuperCall.name c.in-SuperCall.arguments c.in-SuperCall.is) in
    of_if s l ns c.args.context.now.spot c.super_call_note.result _ (λ v. noting.list p (rules.super_rule v n) (noting.note_at (shown_notes l ns) c.in-SuperCall.arguments)) _ _ c.here-in-SuperCall.ensures c.in-SuperCall.is c.super_call_note.ensures.within c.super_call_note.ensures.no_rest c.super_call_note.ensures.shown
    (λ made h. h (setting_in s.trees.now s.file) s.scopes.now.bindings.items n refl found
    ∙ ap (noting.list p (rules.super_rule (scope_here s w) n)) c.part-in-SuperCall.ensures.shown) refl

pub returns-in-ConstructorCall : goal.returns-in-ConstructorCall
returns-in-ConstructorCall c =
    let s = c.args.context.now.site in
    let l = c.args.context.now.types.now in
    let ns = c.args.context.now.notes.now in
    let p = c.args.context.now.spot.place in
    let at = c.here-in-ConstructorCall.ensures in
    let class = ap (λ (w : Within). (scope_here s w).class) at ∙ c.requires.class in
    of_if s l ns c.args.context.now.spot c.constructor_call_note.result _ (λ v. noting.list p (rules.super_constructor_rule v) (noting.note_at (shown_notes l ns) c.in-ConstructorCall.arguments)) _ _ at c.in-ConstructorCall.is c.constructor_call_note.ensures.within c.constructor_call_note.ensures.no_rest c.constructor_call_note.ensures.shown
    (λ made h. h (setting_in s.trees.now s.file) s.scopes.now.bindings.items refl c.requires.context.site.single class
    ∙ ap (noting.list p (rules.super_constructor_rule (scope_here s c.here-in-ConstructorCall.result))) c.part-in-ConstructorCall.ensures.shown) refl

pub returns-in-ObjectCreation : goal.returns-in-ObjectCreation
returns-in-ObjectCreation c =
    let s = c.args.context.now.site in
    let l = c.args.context.now.types.now in
    let ns = c.args.context.now.notes.now in
    let p = c.args.context.now.spot.place in
    let of = noting.note_at (shown_notes l ns) in
    let f = noting.one_and_list p (rules.creation_rule (scope_here s c.here-in-ObjectCreation.result)) in
    of_if s l ns c.args.context.now.spot c.creation_note.result _ (λ v. noting.one_and_list p (rules.creation_rule v) (of c.in-ObjectCreation.class) (of c.in-ObjectCreation.arguments)) _ _ c.here-in-ObjectCreation.ensures c.in-ObjectCreation.is c.creation_note.ensures.within c.creation_note.ensures.no_rest c.creation_note.ensures.shown
    (λ made h. h (setting_in s.trees.now s.file) s.scopes.now.bindings.items refl c.requires.context.site.single
    ∙ ap (λ (x : noting.Note). f x (note_shown l (typed_in l ns) c.part-y.result)) c.part-x.ensures.shown
    ∙ ap (f (of c.in-ObjectCreation.class)) c.part-y.ensures.shown) refl
