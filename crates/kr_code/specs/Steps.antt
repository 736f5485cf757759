-- Between crates: the steps of the meaning that look something up by an object's class, by the tables.
use Rattle.std.specs.Prelude.{ℕ, Bool, true, false, Option, Some, None, nat_eq, nat_lt, if◌then◌else◌}
use Rattle.kr_value.specs.declared.value.Value.{Value}
use Rattle.kr_value.specs.declared.value.Value.TheVariants.{Int, Bool as Truth, Null, Ref as Reference}
use Rattle.kr_value.specs.declared.object.Class.{Class}
use Rattle.kr_value.specs.declared.object.Class.TheVariants.{Object, Array}
use Rattle.kr_value.specs.declared.object.Spot.TheVariants.{Length}
use Rattle.kr_value.specs.Heaps.{object_in}
use Rattle.kr_mean.specs.declared.kind.Kind.TheVariants.{NullPointerException, ClassCastException}
use Rattle.kr_mean.specs.declared.kind.Stop.TheVariants.{Trapped, Stuck}
use Rattle.kr_mean.specs.declared.kind.Kind.{Kind}
use Rattle.kr_mean.specs.Thrown.{throw_as}
use Rattle.kr_mean.specs.Steps.{Run, make, give, stop, ◌>>=◌, class_of, load, load_at, store_at, store_element_if}
use Rattle.kr_code.specs.declared.code.Code.{Code}
use Rattle.kr_code.specs.Tables.{position_in, spot_in, is_instance, class_at, defaults_in, class_in_kind, kind_in}

-- reads the field of a name, or an array's length
abbrev pub load_by_class : Code → Value → ℕ → Class → Run Value
load_by_class code o name (Object c) = load_at o (position_in code name c)
load_by_class code o name (Array t) = if nat_eq name 0 then load o Length else stop Stuck
load_by_class code o name class = stop Stuck

abbrev pub load_named : Code → ℕ → Value → Run Value
load_named code name o = do
  class ← class_of o
  load_by_class code o name class

-- writes a field of an object
abbrev pub store_field : Code → ℕ → Value → Value → Run (Unit {0})
store_field code field (Reference o) v s = store_at o (spot_in code field (object_in s.heap o).class) v s
store_field code field Null v s = stop (Trapped NullPointerException) s
store_field code field w v s = stop Stuck s

abbrev pub store_unless : Bool → Code → ℕ → ℕ → Value → Run (Unit {0})
store_unless true code field o v s = stop Stuck s
store_unless false code field o v s = store_field code field (Reference o) v s

-- writes a field of an object that is no candidate
abbrev pub store_initial : Code → ℕ → Value → Value → Run (Unit {0})
store_initial code field (Reference o) v s = store_unless (nat_lt o s.candidates) code field o v s
store_initial code field w v s = stop Stuck s

-- writes an element of an array of a type
abbrev pub store_item : Code → ℕ → Value → Value → Value → Run (Unit {0})
store_item code t (Reference o) (Int i) v s = store_element_if (is_instance code t (object_in s.heap o).class) o i v s
store_item code t Null (Int i) v s = stop (Trapped NullPointerException) s
store_item code t w x v s = stop Stuck s

-- null is of each type
abbrev pub cast_to : Code → ℕ → Value → Option Class → Run Value
cast_to code t v None = give v
cast_to code t v (Some class) = if is_instance code t class then give v else stop (Trapped ClassCastException)

abbrev pub instance_of : Code → ℕ → Option Class → Value
instance_of code t None = Truth false
instance_of code t (Some class) = Truth (is_instance code t class)

-- ---- what is thrown

abbrev pub throw_class : {A : Type 0} → Code → Value → Class → Run A
throw_class code v (Object c) = throw_as (kind_in code c) v
throw_class code v class = stop Stuck

-- null traps
abbrev pub throw_object : {A : Type 0} → Code → Value → Run A
throw_object code v = class_of v >>= throw_class code v

abbrev pub new_thrown : Code → Option ℕ → Run Value
new_thrown code None = stop Stuck
new_thrown code (Some c) = make (Object c) (defaults_in code (class_at code c))

abbrev pub taken_or_new : Code → Kind → Option Value → Run Value
taken_or_new code k (Some v) s = give v (record s { thrown = None })
taken_or_new code k None s = new_thrown code (class_in_kind code k) s

-- the object that was thrown; of a trap a new one
abbrev pub taken : Code → Kind → Run Value
taken code k s = taken_or_new code k s.thrown s
