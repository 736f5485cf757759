-- Between crates: how far the last index of a path can be raised.
use Rattle.std.specs.Prelude.{◌≡◌, ℕ, ◌+◌, ◌<◌, ◌≤◌, List, [], ◌∷◌, ◌++◌, Option, Some, None}
use Rattle.kr_mean.specs.Space.{Space}
use Rattle.kr_mean.specs.Choices.{IsAllowed}

-- each index of a slot after one and up to a limit is in its domain, and allowed after a path
pub record IsOpen (space : Space) (path : List (ℕ × ℕ)) (slot index limit : ℕ) : Type 0 where
  pub within : (j : ℕ) → index < j → j ≤ limit → j < space.size slot
  pub allowed : (j : ℕ) → index < j → j ≤ limit → IsAllowed space path slot j

-- so it is for the last slot of a path, after its index there
pub record Opens (space : Space) (path : List (ℕ × ℕ)) (limit : ℕ) : Type 0 where
  pub last : (front : List (ℕ × ℕ)) (s i : ℕ) → path ≡ front ++ (s, i) ∷ [] → IsOpen space front s i limit

-- the last slot of a path with the next index, which isn't above a limit
pub record Raises (path : List (ℕ × ℕ)) (s i limit : ℕ) : Type 0 where
  pub front : List (ℕ × ℕ)
  pub index : ℕ
  pub path_is : path ≡ front ++ (s, index) ∷ []
  pub next : i ≡ index + 1
  pub below : i ≤ limit

abbrev pub IsStep : List (ℕ × ℕ) → ℕ → Option (ℕ × ℕ) → Type 0
IsStep path limit None = Unit {0}
IsStep path limit (Some (s, i)) = Raises path s i limit
