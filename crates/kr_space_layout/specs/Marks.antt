-- Between crates: marks at numbers.
use Rattle.std.specs.Prelude.{◌≡◌, ℕ, ◌==◌, Bool, true, false, List, if◌then◌else◌}
use Rattle.std.proofs.Common.{get_or}

-- one number more is marked
abbrev pub IsMarked : List Bool → ℕ → List Bool → Type 0
IsMarked old n new = (m : ℕ) → get_or new m false ≡ (if m == n then true else get_or old m false)
