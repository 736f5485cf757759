use Rattle.std.proofs.Common.{◌≡◌, refl, ap, ◌∙◌, subst, ℕ, List}
use Rattle.std.specs.Prelude.{Option}
use Rattle.kr_ast.specs.Arena.{Arena, name_in, tree_in}
use Rattle.kr_ast.specs.declared.node.Node.{Node}
use Rattle.kr_types_meaning.specs.Scopes.{class_before}
use Rattle.kr_types_meaning.specs.Noting as noting
use Rattle.kr_types_judging.specs.Shown.{note_shown}
use Rattle.kr_types_expressions.specs.Notes.{shown_notes, typed_in}
use Rattle.kr_types.specs.Programs.{setting_in}
use Rattle.kr_types.specs.Sites.{IsBefore, scope_here, scope_of, tree_there}
use Rattle.kr_types.proofs.Making.{of_one, of_if}
use Rattle.kr_types.proofs.resolved.access_note.Goals as goal

pub returns-in-FieldAccess : goal.returns-in-FieldAccess
returns-in-FieldAccess c =
    let s = c.args.context.now.site in
    let l = c.args.context.now.types.now in
    let ns = c.args.context.now.notes.now in
    let here = scope_here s c.here.result in
    let p = c.args.context.now.spot.place in
    let n = name_in (tree_there s).text c.in-FieldAccess.name in
    let name_is = c.name.ensures ∙ ap (λ (a : Arena). name_in a.text c.in-FieldAccess.name) c.tree.ensures in
    let before = class_before (scope_of s c.args.context.now.spot.at) (tree_in (tree_there s) c.in-FieldAccess.object) in
    let is : c.args.before ≡ before = subst (λ (k : Node). IsBefore s c.args.context.now.spot.at k c.args.before) c.in-FieldAccess.is c.requires.before in
    of_one s l ns c.args.context.now.spot (λ v. noting.field_of v p n before) _ _ _ _ _ c.here.ensures c.in-FieldAccess.is c.field_note.ensures.within c.field_note.ensures.no_rest
    (c.field_note.ensures.shown (setting_in s.trees.now s.file) s.scopes.now.bindings.items (typed_in l ns) refl
    ∙ ap (λ (m : List ℕ). noting.field_of here p m c.args.before (note_shown l (typed_in l ns) c.part.result)) name_is
    ∙ ap (λ (o : Option ℕ). noting.field_of here p n o (note_shown l (typed_in l ns) c.part.result)) is) c.part.ensures.shown refl

pub returns-in-MethodCall : goal.returns-in-MethodCall
returns-in-MethodCall c =
    let s = c.args.context.now.site in
    let l = c.args.context.now.types.now in
    let ns = c.args.context.now.notes.now in
    let look = typed_in l ns in
    let here = scope_here s c.here-in-MethodCall.result in
    let p = c.args.context.now.spot.place in
    let n = name_in (tree_there s).text c.in-MethodCall.name in
    let name_is = c.name-in-MethodCall.ensures ∙ ap (λ (a : Arena). name_in a.text c.in-MethodCall.name) c.tree-in-MethodCall.ensures in
    let before = class_before (scope_of s c.args.context.now.spot.at) (tree_in (tree_there s) c.in-MethodCall.object) in
    let is : c.args.before ≡ before = subst (λ (k : Node). IsBefore s c.args.context.now.spot.at k c.args.before) c.in-MethodCall.is c.requires.before in
    let of = noting.note_at (shown_notes l ns) in
    of_if s l ns c.args.context.now.spot c.method_call_note.result _ (λ v. noting.method_of v p n before (of c.in-MethodCall.object) (of c.in-MethodCall.arguments)) _ _ c.here-in-MethodCall.ensures c.in-MethodCall.is c.method_call_note.ensures.within c.method_call_note.ensures.no_rest c.method_call_note.ensures.shown
    (λ made h. h (setting_in s.trees.now s.file) s.scopes.now.bindings.items refl
    ∙ ap (λ (m : List ℕ). noting.method_of here p m c.args.before (note_shown l look c.part-x.result) (note_shown l look c.part-y.result)) name_is
    ∙ ap (λ (o : Option ℕ). noting.method_of here p n o (note_shown l look c.part-x.result) (note_shown l look c.part-y.result)) is
    ∙ ap (λ (x : noting.Note). noting.method_of here p n before x (note_shown l look c.part-y.result)) c.part-x.ensures.shown
    ∙ ap (noting.method_of here p n before (of c.in-MethodCall.object)) c.part-y.ensures.shown) refl
