-- Between crates: lists of different items that only grow.
use Rattle.std.specs.Prelude.{◌≡◌, ℕ, List, ◌++◌, Some, slice_get}

-- the new list is the old one with more items at its end
pub record IsGrown {A : Type 0} (old new : List A) : Type 0 where
  pub more : List A
  pub items : new ≡ old ++ more

-- the items are distinct
abbrev pub AreApart : {A : Type 0} → List A → Type 0
AreApart {A} xs = (i j : ℕ) (x : A) → slice_get xs i ≡ Some x → slice_get xs j ≡ Some x → i ≡ j

-- the item isn't there
abbrev pub IsAbsent : {A : Type 0} → A → List A → Type 0
IsAbsent x xs = (i : ℕ) → slice_get xs i ≡ Some x → ⊥
