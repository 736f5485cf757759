-- Between crates: allowed choices: of each class domain an index takes an object that already occurs on the path, or the next
-- unused one.
use Rattle.std.specs.Prelude.{ℕ, ◌<◌, List, [], ◌∷◌, ◌++◌}
use Rattle.kr_mean.specs.Space.{Space}
use Rattle.kr_mean.specs.Choices.{IsAllowed}

-- each slot of a path has an index within its domain
abbrev pub PathIn : Space → List (ℕ × ℕ) → Type 0
PathIn space [] = Unit {0}
PathIn space (p ∷ path) = (p.0 < space.slots) × (p.1 < space.size p.0) × PathIn space path

-- each index on a path is allowed after those before it
abbrev pub AllowedPath : Space → List (ℕ × ℕ) → List (ℕ × ℕ) → Type 0
AllowedPath space before [] = Unit {0}
AllowedPath space before (p ∷ path) = IsAllowed space before p.0 p.1 × AllowedPath space (before ++ p ∷ []) path
