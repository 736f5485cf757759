-- Between crates: numbers, each once, and marks at those that are there.
use Rattle.std.specs.Prelude.{◌≡◌, ℕ, Bool, true, false, ◌==◌, ◌||◌, List, [], ◌∷◌, ◌++◌, if◌then◌else◌}
use Rattle.std.proofs.Common.{get_or}

-- the number is one of these
abbrev pub has_number : List ℕ → ℕ → Bool
has_number [] n = false
has_number (m ∷ ms) n = (n == m) || has_number ms n

-- one more number, where it isn't there yet
abbrev pub with_number : List ℕ → ℕ → List ℕ
with_number ns n = if has_number ns n then ns else ns ++ n ∷ []

-- the numbers that are there are marked, and no others
abbrev pub AreMarked : List Bool → List ℕ → Type 0
AreMarked marks ns = (n : ℕ) → get_or marks n false ≡ has_number ns n
