-- To be believed: where a candidate has a value.
use Rattle.std.specs.Prelude.{ℕ}
use Rattle.kr_value.specs.declared.object.Spot.{Spot}
use Rattle.kr_value.specs.declared.place.SlotPlace as code
use Rattle.kr_value.specs.declared.place.SlotPlace.TheVariants as places

-- `this`, a parameter of the method under test, or a spot of an object
pub data SlotPlace : Type 0 where
  This : SlotPlace
  Parameter : ℕ → SlotPlace
  At : ℕ → Spot → SlotPlace

-- the place that the code's type names
abbrev pub place_of : code.SlotPlace → SlotPlace
place_of places.This = This
place_of (places.Parameter i) = Parameter i
place_of (places.At o s) = At o s
