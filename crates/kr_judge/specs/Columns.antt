-- Between crates: an object's slot for a spot.
use Rattle.std.specs.Prelude.{◌≡◌, ℕ, zero, suc, ◌<◌}
use Rattle.kr_value.specs.declared.object.Class.{Class}
use Rattle.kr_value.specs.declared.object.Class.TheVariants.{Object, Array, Set, List}
use Rattle.kr_value.specs.declared.object.Spot.{Spot}
use Rattle.kr_value.specs.declared.object.Spot.TheVariants.{Field, Length, Element}

-- of an array the length comes first, and then its elements
abbrev pub spot_at : Class → ℕ → Spot
spot_at (Array t) zero = Length
spot_at (Array t) (suc k) = Element k
spot_at (Object c) j = Field j
spot_at Set j = Field j
spot_at List j = Field j

-- none of so many slots is for the spot
abbrev pub HasNone : Class → ℕ → Spot → Type 0
HasNone class width spot = (j : ℕ) → j < width → spot_at class j ≡ spot → ⊥
