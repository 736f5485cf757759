-- To be believed: a heap: its objects by their numbers.
use Rattle.std.specs.Prelude.{ℕ, nat_lt, pos, Bool, true, false, List, [], length}
use Rattle.std.proofs.Common.{get_or}
use Rattle.kr_value.specs.declared.value.Value.{Value}
use Rattle.kr_value.specs.declared.value.Value.TheVariants.{Int, Null}
use Rattle.kr_value.specs.declared.object.Class.{Class}
use Rattle.kr_value.specs.declared.object.Class.TheVariants.{Object, Array}
use Rattle.kr_value.specs.declared.object.Spot.{Spot}
use Rattle.kr_value.specs.declared.object.Spot.TheVariants.{Field, Length, Element}

-- An object: its class and its values, which are the fields, an array's elements, or a collection's members in the
-- order in which they were added.
pub record HeapObject : Type 0 where
  pub class : Class
  pub values : List Value

abbrev pub Heap : Type 0
Heap = List HeapObject

abbrev pub no_object : HeapObject
no_object = record { class = Object 0; values = [] }

-- the object of a number
abbrev pub object_in : Heap → ℕ → HeapObject
object_in heap o = get_or heap o no_object

-- whether an object has a spot: fields for an object of a class, length and elements for an array
abbrev pub has_spot_of : Class → ℕ → Spot → Bool
has_spot_of (Object c) n (Field f) = nat_lt f n
has_spot_of (Array t) n Length = true
has_spot_of (Array t) n (Element i) = nat_lt i n
has_spot_of class n spot = false

abbrev pub has_spot : HeapObject → Spot → Bool
has_spot object spot = has_spot_of object.class (length object.values) spot

-- the value at a spot that the object has
abbrev pub value_of_spot : HeapObject → Spot → Value
value_of_spot object (Field f) = get_or object.values f Null
value_of_spot object Length = Int (pos (length object.values))
value_of_spot object (Element i) = get_or object.values i Null
