-- Between crates: indexes of names.
use Rattle.std.specs.Prelude.{◌≡◌, ℕ, List, [], ◌∷◌, Option, Some, None, bytes_eq, if◌then◌else◌}
use Rattle.std.specs.List.{position_from}

-- the index kept for a name
abbrev pub place_of : List ℕ → List (List ℕ × ℕ) → Option ℕ
place_of n [] = None
place_of n (e ∷ es) = if bytes_eq n e.0 then Some e.1 else place_of n es

-- for each name the index of its first occurrence
abbrev pub IsIndexOf : List (List ℕ) → List (List ℕ × ℕ) → Type 0
IsIndexOf names kept = (n : List ℕ) → place_of n kept ≡ position_from (bytes_eq n) 0 names
