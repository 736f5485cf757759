-- The trees of a forest's nodes.
use Rattle.std.proofs.Common.{◌≡◌, ℕ, ◌+◌, ◌<◌, List, [], ◌∷◌, get_or, Some, refl, arith}
use Rattle.std.specs.Prelude.{slice_get, map}
use Rattle.kr_base.specs.declared.place.Place.{Place}
use Rattle.kr_ast.specs.declared.node.Node.{Node}
use Rattle.kr_ast.specs.declared.node.Node.TheVariants as nodes
use Rattle.kr_ast.specs.declared.node.Entry.{Entry}
use Rattle.kr_ast.specs.Tree.{Tree, Nil}
use Rattle.kr_ast.specs.Arena.{name_in, trees, tree_at, tree_of, entry_tree, parts, names, ArePartsFrom, IsForest}
use Rattle.kr_ast.proofs.Grown.{grow_stands}

-- a node's tree depends on the trees of its parts and the bytes of its names only
pub tree_of_same : (text text' : List ℕ) (look look' : ℕ → Tree) (p : Place) (n : Node) → map look (parts n) ≡ map look' (parts n) → map (name_in text) (names n) ≡ map (name_in text') (names n) → tree_of text look p n ≡ tree_of text' look' p n
tree_of_same text text' look look' p nodes.Nil e f = refl
tree_of_same text text' look look' p _ e f = cc

near_parts : (es : List Entry) (look look' : ℕ → Tree) (i j : ℕ) (cs : List ℕ) → ((k : ℕ) → k < i → look k ≡ look' k) → ArePartsFrom es i j cs → map look cs ≡ map look' cs
near_parts es look look' i j [] h s = refl
near_parts es look look' i j (c ∷ cs) h s = cc (h c s.0.below, near_parts es look look' i (j + 1) cs h s.1)

near_tree : (text : List ℕ) (es : List Entry) (look look' : ℕ → Tree) (i : ℕ) (at : Place) (n : Node) → ((k : ℕ) → k < i → look k ≡ look' k) → ArePartsFrom es i 0 (parts n) → tree_of text look at n ≡ tree_of text look' at n
near_tree text es look look' i at n h s = tree_of_same text text look look' at n (near_parts es look look' i 0 (parts n) h s) refl

-- for passes over a tree: the tree at each index is the rule's tree of the node there
pub tree_stands : (text : List ℕ) (es : List Entry) → IsForest text es → (i : ℕ) (e : Entry) → slice_get es i ≡ Some e → tree_at text es i ≡ tree_of text (tree_at text es) e.place e.node
unfolding trees
tree_stands text es f i e is =
    grow_stands (entry_tree text) Nil (λ i e. ArePartsFrom es i 0 (parts e.node)) (λ i n xs ys h p. near_tree text es (λ k. get_or xs k Nil) (λ k. get_or ys k Nil) i n.place n.node h p) [] es i i e is (omega arith) (f.stands i e is)
