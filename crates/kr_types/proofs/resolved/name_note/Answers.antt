use Rattle.std.proofs.Common.{refl, ap, ◌∙◌, ℕ, List}
use Rattle.kr_ast.specs.Arena.{Arena, name_in}
use Rattle.kr_classes_table.specs.Constants.{values_of}
use Rattle.kr_types_meaning.specs.Rules as rules
use Rattle.kr_classes_members.specs.Shown.{table_in}
use Rattle.kr_types_meaning.specs.Noting as noting
use Rattle.kr_types_judging.specs.Shown.{note_shown}
use Rattle.kr_types_expressions.specs.Notes.{typed_in}
use Rattle.kr_types.specs.Sites.{scope_of, tree_there}
use Rattle.kr_types.proofs.Making.{of_one}
use Rattle.kr_types.proofs.resolved.name_note.Goals as goal

pub returns-in-Declarator : goal.returns-in-Declarator
returns-in-Declarator c =
    let s = c.args.context.now.site in
    let l = c.args.context.now.types.now in
    let look = typed_in l c.args.context.now.notes.now in
    let p = c.args.context.now.spot.place in
    let name_is = c.name-in-Declarator.ensures ∙ ap (λ (a : Arena). name_in a.text c.in-Declarator.name) c.tree-in-Declarator.ensures in
    let there = scope_of s c.args.context.now.spot.at in
    of_one s l c.args.context.now.notes.now c.args.context.now.spot (λ v. noting.maybe p (rules.declaration_rule v v.declaring p (name_in (tree_there s).text c.in-Declarator.name))) _ _ _ _ _ refl c.in-Declarator.is c.declarator_note.ensures.within c.declarator_note.ensures.no_rest
    (c.declarator_note.ensures.shown (values_of (table_in s.trees.now)) look c.requires.context.site.values c.part.ensures.linked
    ∙ ap (λ (m : List ℕ). noting.maybe p (rules.declaration_rule there there.declaring p m) (note_shown l look c.part.result)) name_is) c.part.ensures.shown refl
