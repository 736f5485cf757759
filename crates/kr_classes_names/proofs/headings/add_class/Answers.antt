use Rattle.std.proofs.Common.{◌≡◌, ◌∙◌, ap, sym, subst, ◌++◌, ◌∷◌, [], map, length, append_assoc, arith}
use Rattle.std.specs.Prelude.{Some, None, flat_map}
use Rattle.std.proofs.lemmas.List.{map-append}
use Rattle.std.proofs.lemmas.List.Folds.{flat_map-map}
use Rattle.kr_ast.specs.Arena.{Arena, tree_in}
use Rattle.kr_classes_table.specs.Table.{heading_of, with_nested, items}
use Rattle.kr_ast.specs.Files.{file_at, tree_of_node}
use Rattle.kr_classes_names.specs.Shown.{heading_shown}
use Rattle.kr_classes_names.proofs.headings.add_class.Goals as goal

pub returns-in_ok-add_nested-in-Some-clause-shown : goal.returns-in_ok-add_nested-in-Some-clause-shown
returns-in_ok-add_nested-in-Some-clause-shown c =
    let files = c.args.trees.now in
    let k = c.len-number.result in
    let n = length c.args.headings.now.items in
    let same : k ≡ n = omega arith in
    let before = map (heading_shown files) c.args.headings.now.items in
    let class = c.in-Some.class in
    let a = file_at files class.file in
    let own = heading_shown files class in
    let nested = heading_of (Some k) in
    let members = c.in_ok-members-in-Some.members.items in
    let listed : map (tree_in a) members ≡ items (tree_in a class.members) =
    subst (λ (x : Arena). map (tree_in x) members ≡ items (tree_in x class.members)) c.tree_of.ensures c.in_ok-members-in-Some.ensures.shown in
    c.in_ok-add_nested-in-Some.ensures.shown
    ∙ ap (λ hs. map (heading_shown files) hs ++ flat_map (λ m. nested (tree_in a m)) c.deref.result.now) c.in_ok-push-in-Some.ensures.items
    ∙ ap (λ hs. hs ++ flat_map (λ m. nested (tree_in a m)) c.deref.result.now) (map-append (heading_shown files) c.args.headings.now.items (class ∷ []))
    ∙ append_assoc before (own ∷ []) (flat_map (λ m. nested (tree_in a m)) c.deref.result.now)
    ∙ ap (λ xs. before ++ own ∷ flat_map (λ m. nested (tree_in a m)) xs) c.deref.ensures.value
    ∙ ap (λ xs. before ++ own ∷ xs) (sym (flat_map-map nested (tree_in a) members) ∙ ap (flat_map nested) listed)
    ∙ ap (λ hs. before ++ with_nested k hs) c.in-Some.ensures.shown
    ∙ ap (λ i. before ++ with_nested i (heading_of None (tree_of_node files c.args.at))) same
