-- Between crates: new numbers for the objects of class domains.
use Rattle.std.specs.Prelude.{◌≡◌, ℕ, ◌<◌, List, map, Vec}
use Rattle.std.specs.declared.alloc.Global.{Global}

abbrev pub rows_of : List (Vec ℕ Global) → List (List ℕ)
rows_of rows = map (λ row. row.items) rows

-- no lesser number gets the same new one
abbrev pub IsNew : (ℕ → ℕ → ℕ) → ℕ → ℕ → Type 0
IsNew name d k = (j : ℕ) → j < k → name d j ≡ name d k → ⊥

-- a permutation of so many numbers
abbrev pub Permutes : (ℕ → ℕ → ℕ) → ℕ → ℕ → Type 0
Permutes name d n = (k : ℕ) → k < n → (name d k < n) × IsNew name d k
