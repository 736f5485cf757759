-- Between crates: slots, each once, where it comes first.
use Rattle.std.specs.Prelude.{◌≡◌, ℕ, Bool, false, List, [], ◌∷◌, ◌++◌, if◌then◌else◌}
use Rattle.std.proofs.Common.{get_or}
use Rattle.kr_mean.specs.Runs.{contains_number}

-- one more slot
abbrev pub with_slot : List ℕ → ℕ → List ℕ
with_slot order s = if contains_number order s then order else order ++ s ∷ []

-- more slots, in order
abbrev pub with_slots : List ℕ → List ℕ → List ℕ
with_slots order [] = order
with_slots order (s ∷ ss) = with_slots (with_slot order s) ss

-- the slots of an order are marked, and no others
abbrev pub AreMarked : List Bool → List ℕ → Type 0
AreMarked marks order = (s : ℕ) → get_or marks s false ≡ contains_number order s

-- no slot comes twice
abbrev pub EachOnce : List ℕ → Type 0
EachOnce [] = Unit {0}
EachOnce (s ∷ ss) = (contains_number ss s ≡ false) × EachOnce ss
