-- Between crates: where a shard goes among others.
use Rattle.std.specs.Prelude.{◌≡◌, ℕ, ◌≤◌, List, length}
use Rattle.std.specs.List.{insert}
use Rattle.kr_shard.specs.Merging.{from_of, placed}
use Rattle.kr_shard.specs.declared.order.Given.{Given}

-- a shard that begins at this cut, put in there, is in its place
pub record IsPlace (ordered : List Given) (from : List ℕ) (at : ℕ) : Type 0 where
  pub within : at ≤ length ordered
  pub place : (given : Given) → from_of given ≡ from → insert ordered at given ≡ placed given ordered
