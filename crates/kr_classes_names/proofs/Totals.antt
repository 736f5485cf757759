-- The numbers of all nodes, and of those that are not there.
use Rattle.std.proofs.Common.{◌≡◌, refl, sym, ap, subst, ℕ, zero, suc, ◌<◌, ◌≤◌, ◌⊎◌, inl, inr, List, [], ◌∷◌, length, map, get_or, arith}
use Rattle.kr_ast.specs.Grow.{grow}
use Rattle.kr_ast.specs.Tree.{Nil}
use Rattle.kr_ast.specs.Arena.{Arena, root, tree_in, trees, entry_tree}
use Rattle.kr_ast.proofs.Grown.{length-grow}
use Rattle.kr_classes_table.specs.Types.{JavaType, VoidType}
use Rattle.kr_classes_table.specs.Table.{headings_of, type_named}
use Rattle.kr_ast.specs.Files.{file_at, no_file}
use Rattle.kr_classes_names.specs.Types.{TypeList, IsTypeNumber}
use Rattle.kr_classes_names.specs.Numbers.{AreNodeTypes, AreNodeTypesOf, named_type, number_in}

order : (a b : ℕ) → (a < b) ⊎ (b ≤ a)
order a zero = inr (omega arith)
order zero (suc b) = inl (omega arith)
order (suc a) (suc b) = elim (order a b) [ inl l ↦ inl (omega (arith, l)) | inr r ↦ inr (omega (arith, r)) ]

past : {A : Type 0} (xs : List A) (n : ℕ) (d : A) → length xs ≤ n → get_or xs n d ≡ d
past [] n d l = refl
past (x ∷ xs) zero d l = absurd (omega (arith, l))
past (x ∷ xs) (suc n) d l = past xs n d (omega (arith, l))

no_tree : (a : Arena) (n : ℕ) → length a.entries ≤ n → tree_in a n ≡ Nil
unfolding trees
no_tree a n l = past (grow (entry_tree a.text) [] a.entries) n Nil (omega (arith, l, length-grow (entry_tree a.text) [] a.entries))

no_type : (files : List Arena) (f n : ℕ) → length (file_at files f).entries ≤ n → named_type files f n ≡ VoidType
no_type files f n l = ap (type_named (headings_of (map root files))) (no_tree (file_at files f) n l)

void_is : (l : TypeList) (v n : ℕ) (t : JavaType) → v ≡ n → IsTypeNumber l n VoidType → t ≡ VoidType → IsTypeNumber l v t
void_is l v n t e i s = subst (λ (x : JavaType). IsTypeNumber l v x) (sym s) (subst (λ (m : ℕ). IsTypeNumber l m VoidType) (sym e) i)

pub total : (files : List Arena) (l : TypeList) (ns : List (List ℕ)) → length ns ≡ length files → AreNodeTypesOf files l (length files) ns → IsTypeNumber l 3 VoidType → AreNodeTypes files l ns
total files l ns long h void f n = elim (order f (length files)) [
  | inl a ↦ (let k = h f a in elim (order n (length (get_or ns f []))) [
    | inl b ↦ k.numbers n b
    | inr b ↦ void_is l (number_in ns f n) 3 (named_type files f n) (past (get_or ns f []) n 3 b) void (no_type files f n (omega (arith, b, k.long)))
  ])
  | inr a ↦ void_is l (number_in ns f n) 3 (named_type files f n) (ap (λ xs. get_or xs n 3) (past ns f [] (omega (arith, a, long)))) void
      (no_type files f n (omega (arith, ap (λ x. length x.entries) (past files f no_file a))))
]
