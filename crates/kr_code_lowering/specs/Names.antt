-- Between crates: the names of fields by number.
use Rattle.std.specs.Prelude.{◌≡◌, ℕ, List, Some, codes, slice_get}
use Rattle.kr_classes_names.specs.ListedTypes.{AreApart}

-- `length` is the first, and none occurs twice
pub record AreNames (names : List (List ℕ)) : Type 0 where
  pub apart : AreApart names
  pub first : slice_get names 0 ≡ Some (codes "length")
