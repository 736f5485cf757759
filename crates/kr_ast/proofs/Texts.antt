-- Trees stay the same while their text grows.
use Rattle.std.proofs.Common.{◌≡◌, ℕ, ◌-◌, ◌≤◌, List, [], ◌∷◌, ◌++◌, length, take, drop, Some, refl, ap, ◌∙◌, arith, length-drop}
use Rattle.std.specs.Prelude.{slice_get, slice_index_or, map}
use Rattle.std.proofs.lemmas.List.{take-append-le, drop-append-le}
use Rattle.kr_ast.specs.declared.node.Name.{Name}
use Rattle.kr_ast.specs.declared.node.Entry.{Entry}
use Rattle.kr_ast.specs.Tree.{Nil}
use Rattle.kr_ast.specs.Arena.{name_in, entry_tree, trees, names, AreNamesIn}
use Rattle.kr_ast.proofs.Grown.{grow_same}
use Rattle.kr_ast.proofs.Trees.{tree_of_same}

pub name_in-append : (text more : List ℕ) (n : Name) → n.start ≤ n.end → n.end ≤ length text → name_in (text ++ more) n ≡ name_in text n
name_in-append text more n ordered within =
    ap (take (n.end - n.start)) (drop-append-le n.start text more (omega arith))
    ∙ take-append-le (n.end - n.start) (drop n.start text) more (omega (arith, length-drop n.start text))

names_same : (text more : List ℕ) (ns : List Name) → AreNamesIn text ns → map (name_in (text ++ more)) ns ≡ map (name_in text) ns
names_same text more [] h = refl
names_same text more (n ∷ ns) h = cc (name_in-append text more n h.0 h.1, names_same text more ns h.2)

-- the trees of a forest stay the same while its text grows
pub trees-append : (text more : List ℕ) (es : List Entry) → ((i : ℕ) (e : Entry) → slice_get es i ≡ Some e → AreNamesIn text (names e.node)) → trees (text ++ more) es ≡ trees text es
unfolding trees
trees-append text more es named =
    grow_same (entry_tree (text ++ more)) (entry_tree text) es (λ i e is ts. tree_of_same (text ++ more) text (λ k. slice_index_or ts k Nil) (λ k. slice_index_or ts k Nil) e.place e.node refl (names_same text more (names e.node) (named i e is))) []
