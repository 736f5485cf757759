use Rattle.std.proofs.Common.{◌≡◌, ◌∙◌, subst, map}
use Rattle.kr_ast.specs.Arena.{Arena, tree_in}
use Rattle.kr_classes_table.specs.Table.{constructors_in, fields_in, items, methods_in}
use Rattle.kr_ast.specs.Files.{file_at}
use Rattle.kr_classes_names.specs.Shown.{heading_shown}
use Rattle.kr_classes_members.specs.Shown.{headings_in}
use Rattle.kr_classes_members.proofs.Classes.{of_members, same_class}
use Rattle.kr_classes_members.proofs.members.class_members.Goals as goal

pub returns-clause-shown : goal.returns-clause-shown
returns-clause-shown c =
    let files = c.args.trees.now in
    let hs = headings_in files in
    let h = c.args.heading in
    let a = file_at files h.file in
    let kept = c.in_ok-members.members.items in
    let listed : map (tree_in a) kept ≡ items (tree_in a h.members) = subst (λ (x : Arena). map (tree_in x) kept ≡ items (tree_in x h.members)) c.tree_of.ensures c.in_ok-members.ensures.shown in
    same_class hs c.args.class (heading_shown files h) c.class_named-superclass.result _ _ _ c.class_named-superclass.ensures
    (c.in_ok-fields.ensures.shown ∙ of_members (fields_in hs c.args.class) a _ kept _ c.deref.ensures.value listed)
    (c.in_ok-methods.ensures.shown ∙ of_members (methods_in hs c.args.class) a _ kept _ c.deref-2.ensures.value listed)
    (c.in_ok-constructors.ensures.shown ∙ of_members (constructors_in hs) a _ kept _ c.deref-3.ensures.value listed)
