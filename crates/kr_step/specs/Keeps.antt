-- Between crates: what stays when a search moves on.
use Rattle.std.specs.Prelude.{◌≡◌, ℕ, ◌<◌, ◌≤◌, List, [], ◌∷◌, ◌++◌, length}
use Rattle.std.proofs.Common.{get_or}

-- a path that goes on from a front of another by one step
pub record Follows (old new : List (ℕ × ℕ)) : Type 0 where
  pub front : List (ℕ × ℕ)
  pub back : List (ℕ × ℕ)
  pub last : ℕ × ℕ
  pub old_is : old ≡ front ++ back
  pub new_is : new ≡ front ++ last ∷ []

-- the first so many numbers of a cut are the indices of a path
pub record Keeps (cut : List ℕ) (path : List (ℕ × ℕ)) (kept : ℕ) : Type 0 where
  pub in_cut : kept ≤ length cut
  pub on_path : kept ≤ length path
  pub same : (k : ℕ) → k < kept → get_or cut k 0 ≡ (get_or path k (0, 0)).1
