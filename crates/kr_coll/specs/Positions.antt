-- Between crates: the first position of a member.
use Rattle.std.specs.Prelude.{◌≡◌, ℕ, ◌<◌, true, false, List, length}
use Rattle.std.specs.List.{remove}
use Rattle.kr_value.specs.declared.value.Value.{Value}
use Rattle.kr_mean.specs.Collections.{has_member, without}

-- this position has the first equal member
pub record IsFirstAt (xs : List Value) (m : Value) (at : ℕ) : Type 0 where
  pub within : at < length xs
  pub there : has_member m xs ≡ true
  pub taken : without m xs ≡ remove xs at

pub record IsAbsent (xs : List Value) (m : Value) : Type 0 where
  pub there : has_member m xs ≡ false
  pub taken : without m xs ≡ xs
