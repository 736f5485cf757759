-- To be believed: cuts as lists of numbers, their order, and their text.
use Rattle.std.specs.Prelude.{◌≡◌, ℕ, ◌<◌, ◌⊎◌, List, [], ◌∷◌, ◌++◌, Bool, true, false, codes, decimal, flat_map}
use Rattle.std.specs.Ordering.{nat_cmp, is_lt}
use Rattle.std.specs.Cmp.Lexicographic.{slice_cmp}

-- Lexicographic order: at the first difference the number is less, or the cut ends there.
abbrev pub Before : List ℕ → List ℕ → Type 0
Before [] [] = ⊥
Before [] (y ∷ ys) = Unit {0}
Before (x ∷ xs) [] = ⊥
Before (x ∷ xs) (y ∷ ys) = (x < y) ⊎ ((x ≡ y) × Before xs ys)

-- the order as a test
abbrev pub is_before : List ℕ → List ℕ → Bool
is_before a b = is_lt (slice_cmp nat_cmp a b)

-- a dot and a number in decimal
abbrev pub dotted : ℕ → List ℕ
dotted n = codes "." ++ decimal n

-- the numbers in decimal, joined by dots
abbrev pub cut_text : List ℕ → List ℕ
cut_text [] = []
cut_text (n ∷ ns) = decimal n ++ flat_map dotted ns

-- the test decides the order, and the order is total
pub record IsOrder (a b : List ℕ) : Type 0 where
  pub sound : is_before a b ≡ true → Before a b
  pub complete : Before a b → is_before a b ≡ true
  pub connected : is_before a b ≡ false → is_before b a ≡ false → a ≡ b

abbrev pub OrderLaw : Type 0
OrderLaw = (a b : List ℕ) → IsOrder a b
