-- Between crates: how many slots an object has in a candidate's heap.
use Rattle.std.specs.Prelude.{ℕ, suc, Bool, true, false}
use Rattle.kr_value.specs.declared.object.Class.{Class}
use Rattle.kr_value.specs.declared.object.Class.TheVariants.{Object, Array, Set, List}
use Rattle.kr_value.specs.declared.value.Value.{Value}
use Rattle.kr_mean.specs.Heaps.{length_in}

abbrev pub is_array : Class → Bool
is_array (Array t) = true
is_array (Object c) = false
is_array Set = false
is_array List = false

-- by its class, its slots and the value of the first: of an array the length and the elements below it
abbrev pub extent_of : Class → ℕ → Value → ℕ
extent_of (Array t) width value = suc (length_in value)
extent_of (Object c) width value = width
extent_of Set width value = width
extent_of List width value = width
