-- Between crates: allowed choices: of each class domain an index takes an object that already occurs on the path, or the next
-- unused one.
use Rattle.std.specs.Prelude.{◌≡◌, ℕ, ◌<◌, ◌≤◌, ◌⊎◌, List, [], ◌∷◌, ◌++◌, Option, Some, None}
use Rattle.std.proofs.Common.{get_or}
use Rattle.kr_mean.specs.Problem.{DomainObject}
use Rattle.kr_mean.specs.Space.{Space}

-- the object occurs on the path, which has slots with their indices
abbrev pub IsUsed : Space → List (ℕ × ℕ) → ℕ → ℕ → Type 0
IsUsed space [] d k = ⊥
IsUsed space (p ∷ path) d k = (space.object_at p.0 p.1 ≡ Some (record { domain = d; number = k })) ⊎ IsUsed space path d k

-- a number, a boolean or null; an object on the path; the next unused one, since all before it are used
abbrev pub MayStand : Space → List (ℕ × ℕ) → Option DomainObject → Type 0
MayStand space path None = Unit {0}
MayStand space path (Some o) = IsUsed space path o.domain o.number ⊎ ((k : ℕ) → k < o.number → IsUsed space path o.domain k)

abbrev pub IsAllowed : Space → List (ℕ × ℕ) → ℕ → ℕ → Type 0
IsAllowed space path s i = MayStand space path (space.object_at s i)

-- each index of a vector along an order is allowed after those before it, which are on the path
abbrev pub AllowedAlong : Space → List ℕ → List (ℕ × ℕ) → List ℕ → Type 0
AllowedAlong space v path [] = Unit {0}
AllowedAlong space v path (s ∷ ss) = IsAllowed space path s (get_or v s 0) × AllowedAlong space v (path ++ (s, get_or v s 0) ∷ []) ss

-- the least allowed index that is at least `least`, if there is one
abbrev pub IsNextChoice : Space → List (ℕ × ℕ) → ℕ → ℕ → Option ℕ → Type 0
IsNextChoice space path s least None = (i : ℕ) → least ≤ i → i < space.size s → IsAllowed space path s i → ⊥
IsNextChoice space path s least (Some j) = (least ≤ j) × (j < space.size s) × IsAllowed space path s j × ((i : ℕ) → least ≤ i → i < j → IsAllowed space path s i → ⊥)
