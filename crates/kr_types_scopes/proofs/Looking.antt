-- The locals of a chain, one after another.
use Rattle.std.proofs.Common.{◌≡◌, ℕ, zero, suc, ◌+◌, ◌-◌, ◌<◌, ◌≤◌, ◌⊎◌, inl, inr, false, List, [], ◌∷◌, length, Option, Some, get_or, refl, sym, ap, ◌∙◌, arith, if◌then◌else◌}
use Rattle.std.specs.Prelude.{slice_get, bytes_eq}
use Rattle.std.proofs.lemmas.Option.{slice_get_read, slice_get_within, slice_get-get_or}
use Rattle.std.proofs.lemmas.Bool.{cases_eq, false_from_ne_true}
use Rattle.std.proofs.lemmas.Slice.Eq.{bytes_eq-Decides}
use Rattle.kr_ast.specs.Arena.{Arena, name_in}
use Rattle.kr_ast.proofs.Grown.{grow_stands}
use Rattle.kr_classes_table.specs.Table.{Table, Field}
use Rattle.kr_classes_table.specs.Constants.{Known}
use Rattle.kr_types_meaning.specs.Scopes.{LocalName, meant_by, field_or_none}
use Rattle.kr_types_scopes.specs.declared.within.Binding.{Binding}
use Rattle.kr_types_scopes.specs.Settings.{Setting, setting, type_there, local_of, extended, locals_at, IsLink, IsChain}
use Rattle.kr_types_scopes.specs.Lookups.{meant_there}
use Rattle.kr_types_scopes.proofs.Chains.{locals_zero}

-- a binding and those below it
locals_stand : (g : Setting) (bs : List Binding) → IsChain bs → (k : ℕ) (b : Binding) → slice_get bs k ≡ Some b → locals_at g bs (k + 1) ≡ local_of g b ∷ locals_at g bs b.below
unfolding locals_at
locals_stand g bs chain k b is =
    grow_stands (extended g) [] (λ i b. b.below < i) (λ i b xs ys h p. ap (λ l. local_of g b ∷ l) (h b.below p)) ([] ∷ []) bs k (k + 1) b is (omega arith) (omega (arith, (chain k b is).below))

-- its number is how many these are
number_within : (n : ℕ) (g : Setting) (bs : List Binding) → IsChain bs → (k : ℕ) (b : Binding) → k < n → slice_get bs k ≡ Some b → length (locals_at g bs b.below) ≡ b.number
number_within zero g bs chain k b l is = absurd (omega (arith, l))
number_within (suc n) g bs chain k b l is = go (chain k b is) (number_within n g bs chain) (cases_eq b.below 0)
  where
    go : IsLink bs k b → ((j : ℕ) (c : Binding) → j < n → slice_get bs j ≡ Some c → length (locals_at g bs c.below) ≡ c.number) → (b.below ≡ 0) ⊎ (b.below ≡ 0 → ⊥)
        → length (locals_at g bs b.below) ≡ b.number
    go link deeper (inl z) = ap (λ j. length (locals_at g bs j)) z ∙ (ap length (locals_zero g bs) ∙ sym (link.first z))
    go link deeper (inr p) =
        let j = b.below - 1 in
        let lt : j < length bs = omega (arith, link.below, slice_get_within bs k b is, p) in
        let c = get_or bs j b in
        let there : slice_get bs j ≡ Some c = slice_get-get_or bs j b lt in
        let up : j + 1 ≡ b.below = omega (arith, p) in
        let deep : length (locals_at g bs c.below) ≡ c.number = deeper j c (omega (arith, link.below, l, p)) there in
        let here : length (locals_at g bs (j + 1)) ≡ c.number + 1 = ap length (locals_stand g bs chain j c there) ∙ omega (arith, deep) in
        ap (λ i. length (locals_at g bs i)) (sym up) ∙ (here ∙ sym (link.next c (omega (arith, p)) there))

-- the newest binding of a chain
module _ (tree : Arena) (bs : List Binding) (chain : IsChain bs) (top : ℕ) (b : Binding) (le : top ≤ length bs) (pos : 0 < top) (is : b ≡ get_or bs (top - 1) b) where
  newest : slice_get bs (top - 1) ≡ Some b
  newest = slice_get_read bs (length bs) (top - 1) b refl (omega (arith, le, pos)) is

  locals_are : (g : Setting) → locals_at g bs top ≡ local_of g b ∷ locals_at g bs b.below
  locals_are g = let up : top - 1 + 1 ≡ top = omega (arith, pos) in ap (locals_at g bs) (sym up) ∙ locals_stand g bs chain (top - 1) b newest

  pub newest_there : slice_get bs (top - 1) ≡ Some b
  newest_there = newest

  pub below_less : b.below < top
  below_less = omega (arith, (chain (top - 1) b newest).below, pos)

  pub meant_same : (n : List ℕ) → name_in tree.text b.name ≡ n → (t : Table) (v : List Known) (f : Option Field) → meant_there t v tree bs top f n ≡ LocalName b.number (type_there (setting t v tree) b.declared)
  meant_same n e t v f =
      let g = setting t v tree in
      ap (λ ls. meant_by ls f n) (locals_are g)
      ∙ (ap (λ q. if q then LocalName (length (locals_at g bs b.below)) (type_there g b.declared) else meant_by (locals_at g bs b.below) f n) ((bytes_eq-Decides (name_in tree.text b.name) n).1 e)
      ∙ ap (λ k. LocalName k (type_there g b.declared)) (number_within top g bs chain (top - 1) b (omega (arith, pos)) newest))

  pub meant_other : (n : List ℕ) → (name_in tree.text b.name ≡ n → ⊥) → (t : Table) (v : List Known) (f : Option Field) → meant_there t v tree bs b.below f n ≡ meant_there t v tree bs top f n
  meant_other n d t v f =
      let g = setting t v tree in
      let no : bytes_eq (name_in tree.text b.name) n ≡ false = false_from_ne_true (bytes_eq (name_in tree.text b.name) n) (λ e. d ((bytes_eq-Decides (name_in tree.text b.name) n).0 e)) in
      sym (ap (λ ls. meant_by ls f n) (locals_are g)
      ∙ ap (λ q. if q then LocalName (length (locals_at g bs b.below)) (type_there g b.declared) else meant_by (locals_at g bs b.below) f n) no)

pub meant_none : (tree : Arena) (bs : List Binding) (top : ℕ) (n : List ℕ) → top ≡ 0 → (t : Table) (v : List Known) (f : Option Field) → meant_there t v tree bs top f n ≡ field_or_none f
meant_none tree bs top n z t v f = ap (λ k. meant_there t v tree bs k f n) z ∙ ap (λ ls. meant_by ls f n) (locals_zero (setting t v tree) bs)
