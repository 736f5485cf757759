-- Between crates: lists of members as sets: they stay distinct, and are exactly those added and not removed.
use Rattle.std.specs.Prelude.{◌≡◌, List, ◌||◌, ◌&&◌, not}
use Rattle.kr_value.specs.declared.value.Value.{Value}
use Rattle.kr_mean.specs.Collections.{is_same_value, has_member, without}
use Rattle.kr_coll.specs.Identities.{Differ, with_member}

pub record IsSetLaw (xs : List Value) (m : Value) : Type 0 where
  pub adding_keeps : Differ xs → Differ (with_member m xs)
  pub removing_keeps : Differ xs → Differ (without m xs)
  pub added : (n : Value) → has_member n (with_member m xs) ≡ (has_member n xs || is_same_value m n)
  pub removed : Differ xs → (n : Value) → has_member n (without m xs) ≡ (has_member n xs && not (is_same_value m n))

abbrev pub SetLaw : Type 0
SetLaw = (xs : List Value) (m : Value) → IsSetLaw xs m
