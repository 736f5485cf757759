-- Between crates: the values of an object, and heaps in which one object has other values.
use Rattle.std.specs.Prelude.{ℕ, List, slice_set, Option, Some, None, if◌then◌else◌}
use Rattle.kr_value.specs.declared.value.Value.{Value}
use Rattle.kr_value.specs.declared.object.Spot.{Spot}
use Rattle.kr_value.specs.Heaps.{Heap, HeapObject, object_in, has_spot, value_of_spot}

-- the value of an object at a spot, if it has that spot
abbrev pub found : HeapObject → Spot → Option Value
found object spot = if has_spot object spot then Some (value_of_spot object spot) else None

-- the heap with other values for one object
abbrev pub with_values : Heap → ℕ → List Value → Heap
with_values heap o values = slice_set heap o (record { class = (object_in heap o).class; values = values })

-- the heap with another value in one object's k-th field or element
abbrev pub with_value : Heap → ℕ → ℕ → Value → Heap
with_value heap o k v = with_values heap o (slice_set (object_in heap o).values k v)
