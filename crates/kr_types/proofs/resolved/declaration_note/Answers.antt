use Rattle.std.proofs.Common.{refl, ap, ◌∙◌, ℕ, List}
use Rattle.kr_ast.specs.Arena.{Arena, name_in}
use Rattle.kr_types_meaning.specs.Scopes.{in_class}
use Rattle.kr_types_meaning.specs.Typing.{class_rule, has_constructor}
use Rattle.kr_types_meaning.specs.Noting as noting
use Rattle.kr_types_judging.specs.Shown.{note_shown}
use Rattle.kr_types_expressions.specs.Notes.{typed_in}
use Rattle.kr_types.specs.Sites.{scope_of, tree_there}
use Rattle.kr_types.proofs.Making.{of_one}
use Rattle.kr_types.proofs.resolved.declaration_note.Goals as goal

pub returns-in-Class : goal.returns-in-Class
returns-in-Class c =
    let s = c.args.context.now.site in
    let l = c.args.context.now.types.now in
    let look = typed_in l c.args.context.now.notes.now in
    let here = scope_of s c.args.context.now.spot.at in
    let p = c.args.context.now.spot.place in
    let n = name_in (tree_there s).text c.in-Class.name in
    let name_is = c.name.ensures ∙ ap (λ (a : Arena). name_in a.text c.in-Class.name) c.tree.ensures in
    of_one s l c.args.context.now.notes.now c.args.context.now.spot (λ v x. noting.concluded p (class_rule (has_constructor (in_class n v)) (in_class n v)) x.least) _ _ _ _ _ refl c.in-Class.is c.class_note.ensures.within c.class_note.ensures.no_rest
    (c.class_note.ensures.shown here look refl c.requires.context.site.single
    ∙ ap (λ (m : List ℕ). noting.concluded p (class_rule (has_constructor (in_class m here)) (in_class m here)) (note_shown l look c.part.result).least) name_is) c.part.ensures.shown refl
