-- To be believed: the steps that runs are made of, and their sequence: a step gives a value or ends the run, may change the
-- state, and reports which places of candidates it read, in order.
use Rattle.std.specs.Prelude.{ℕ, zero, suc, Bool, true, false, List, [], ◌∷◌, ◌++◌, length, take, map, slice_set, Option, Some, None, Result, Ok, Err, ℤ, pos, negsuc, codes, nat_eq, nat_lt, bytes_eq, if◌then◌else◌}
use Rattle.kr_base.specs.declared.place.Place.{Place}
use Rattle.kr_value.specs.declared.value.Value.{Value}
use Rattle.kr_value.specs.declared.value.Value.TheVariants.{Int, Null, Ref as Reference}
use Rattle.kr_value.specs.declared.object.Class.{Class}
use Rattle.kr_value.specs.declared.object.Class.TheVariants.{Object, Array}
use Rattle.kr_value.specs.declared.object.Spot.{Spot}
use Rattle.kr_value.specs.declared.object.Spot.TheVariants.{Field as FieldSpot, Length, Element}
use Rattle.kr_value.specs.Heaps.{HeapObject, object_in, has_spot, value_of_spot}
use Rattle.kr_classes_table.specs.Types.{JavaType}
use Rattle.kr_classes_table.specs.Table.{Field}
use Rattle.kr_classes_table.specs.Constants.{Known, is_at_place}
use Rattle.kr_mean.specs.declared.kind.Kind.{Kind}
use Rattle.kr_mean.specs.declared.kind.Stop.{Stop}
use Rattle.kr_mean.specs.declared.kind.Stop.TheVariants.{Trapped, OutOfFuel, Stuck}
use Rattle.kr_mean.specs.declared.kind.Kind.TheVariants.{NullPointerException, ArrayIndexOutOfBoundsException}
use Rattle.kr_mean.specs.Program.{Program, field_position, spot_of_field, is_array_of}
use Rattle.kr_mean.specs.Places.{SlotPlace, At}
use Rattle.kr_mean.specs.Collections.{Collected, collected}

-- a local's value, and the place that is read with it where a candidate gives it
pub record Local : Type 0 where
  pub value : Value
  pub place : Option SlotPlace

-- the value of an `\old`, by the place of its node
abbrev pub Old : Type 0
Old = Known

-- The state of a run. The locals go by their numbers, the oldest first; the first objects of the heap are the candidates.
-- Result and olds are those of the method under test, once it has run. An object that is thrown is kept until it is caught.
pub record State : Type 0 where
  pub this_value : Value
  pub locals : List Local
  pub result : Option Value
  pub olds : List Old
  pub thrown : Option Value
  pub heap : List HeapObject
  pub candidates : ℕ
  pub fuel : ℕ

-- the answer of a run, the state after it, and the places of candidates that it read, in order
pub record Outcome (A : Type 0) : Type 0 where
  pub said : Result A Stop
  pub after : State
  pub reads : List SlotPlace

abbrev pub Run : Type 0 → Type 0
Run A = State → Outcome A

abbrev pub say : {A : Type 0} → Result A Stop → Run A
say r s = record { said = r; after = s; reads = [] }

abbrev pub give : {A : Type 0} → A → Run A
give a s = say (Ok a) s

abbrev pub stop : {A : Type 0} → Stop → Run A
stop e s = say (Err e) s

-- an outcome, with earlier reads before its own
abbrev pub after_reads : {A : Type 0} → List SlotPlace → Outcome A → Outcome A
after_reads reads o = record { said = o.said; after = o.after; reads = reads ++ o.reads }

-- goes on with what was given, unless the run has ended
abbrev pub go_on : {A B : Type 0} → Result A Stop → State → List SlotPlace → (A → Run B) → Outcome B
go_on (Ok a) s reads f = after_reads reads (f a s)
go_on (Err e) s reads f = record { said = Err e; after = s; reads = reads }

-- one run and then another
unfoldable pub bind : {A B : Type 0} → Run A → (A → Run B) → Run B
bind m f s = go_on (m s).said (m s).after (m s).reads f

infixl 10 ◌>>=◌
abbrev pub ◌>>=◌ : {A B : Type 0} → Run A → (A → Run B) → Run B
m >>= f = bind m f

infixl 10 ◌>>◌
abbrev pub ◌>>◌ : {A B : Type 0} → Run A → Run B → Run B
m >> n = m >>= (λ _. n)

abbrev pub given : {A : Type 0} → Option A → Run A
given (Some a) = give a
given None = stop Stuck

abbrev pub not_null : {A : Type 0} → Option A → Run A
not_null (Some a) = give a
not_null None = stop (Trapped NullPointerException)

-- one unit of fuel
abbrev pub tick_at : ℕ → Run (Unit {0})
tick_at zero s = stop OutOfFuel s
tick_at (suc n) s = give tt (record s { fuel = n })

abbrev pub tick : Run (Unit {0})
tick s = tick_at s.fuel s

-- ---- the frame

abbrev pub get_this : Run Value
get_this s = give s.this_value s

abbrev pub local_at : List Local → ℕ → Option Local
local_at [] k = None
local_at (l ∷ ls) zero = Some l
local_at (l ∷ ls) (suc k) = local_at ls k

abbrev pub place_reads : Option SlotPlace → List SlotPlace
place_reads None = []
place_reads (Some p) = p ∷ []

abbrev pub local_given : Option Local → Run Value
local_given None s = stop Stuck s
local_given (Some l) s = record { said = Ok l.value; after = s; reads = place_reads l.place }

abbrev pub read_local : ℕ → Run Value
read_local k s = local_given (local_at s.locals k) s

abbrev pub plain_local : Value → Local
plain_local v = record { value = v; place = None }

-- a new local
abbrev pub declare : Value → Run (Unit {0})
declare v s = give tt (record s { locals = s.locals ++ plain_local v ∷ [] })

abbrev pub assign_if : Bool → ℕ → Value → Run (Unit {0})
assign_if true k v s = give tt (record s { locals = slice_set s.locals k (plain_local v) })
assign_if false k v s = stop Stuck s

abbrev pub assign : ℕ → Value → Run (Unit {0})
assign k v s = assign_if (nat_lt k (length s.locals)) k v s

abbrev pub get_result : Run Value
get_result s = given s.result s

abbrev pub old_at : List Old → Place → Option Value
old_at [] p = None
old_at (o ∷ os) p = if is_at_place o.place p then Some o.value else old_at os p

abbrev pub get_old : Place → Run Value
get_old p s = given (old_at s.olds p) s

-- the state after a body, with `this` and locals as they were
abbrev pub back_to : {A : Type 0} → State → Outcome A → Outcome A
back_to s o = record { said = o.said; after = record o.after { this_value = s.this_value; locals = s.locals }; reads = o.reads }

abbrev pub entered : {A : Type 0} → Bool → Value → List Value → Run A → Run A
entered false receiver arguments body s = stop Stuck s
entered true receiver arguments body s = back_to s (body (record s { this_value = receiver; locals = map plain_local arguments }))

-- a body with an object as `this`, and with the arguments, so many of them, as its locals
abbrev pub within : {A : Type 0} → Value → ℕ → List Value → Run A → Run A
within receiver n arguments body s = entered (nat_eq (length arguments) n) receiver arguments body s

-- locals declared inside end with it
abbrev pub scoped : {A : Type 0} → Run A → Run A
scoped m s = record { said = (m s).said; after = record (m s).after { locals = take (length s.locals) (m s).after.locals }; reads = (m s).reads }

-- ---- reads

-- a place that is read, if it is a candidate's
abbrev pub noted : Bool → SlotPlace → List SlotPlace
noted true p = p ∷ []
noted false p = []

abbrev pub load_if : Bool → ℕ → Spot → Run Value
load_if false o spot s = stop Stuck s
load_if true o spot s = record { said = Ok (value_of_spot (object_in s.heap o) spot); after = s; reads = noted (nat_lt o s.candidates) (At o spot) }

-- reads a field, or an array's length; null traps
abbrev pub load : Value → Spot → Run Value
load (Reference o) spot s = load_if (has_spot (object_in s.heap o) spot) o spot s
load Null spot s = stop (Trapped NullPointerException) s
load v spot s = stop Stuck s

-- an index that is below a length
abbrev pub index_within : ℤ → ℕ → Option ℕ
index_within (pos i) n = if nat_lt i n then Some i else None
index_within (negsuc i) n = None

abbrev pub element_read : Option ℕ → ℕ → Run Value
element_read None o s = record { said = Err (Trapped ArrayIndexOutOfBoundsException); after = s; reads = noted (nat_lt o s.candidates) (At o Length) }
element_read (Some k) o s = record { said = Ok (value_of_spot (object_in s.heap o) (Element k)); after = s; reads = noted (nat_lt o s.candidates) (At o Length) ++ noted (nat_lt o s.candidates) (At o (Element k)) }

abbrev pub element_if : Bool → ℕ → ℤ → Run Value
element_if false o i s = stop Stuck s
element_if true o i s = element_read (index_within i (length (object_in s.heap o).values)) o s

-- An element of an array: null traps, the length is read, an index that isn't below it traps, and the element is read
-- (15.10.4).
abbrev pub element : Value → Value → Run Value
element (Reference o) (Int i) s = element_if (has_spot (object_in s.heap o) Length) o i s
element Null (Int i) s = stop (Trapped NullPointerException) s
element v w s = stop Stuck s

-- the class of an object, while the program runs; null has none
abbrev pub class_or_null : Value → Run (Option Class)
class_or_null (Reference o) s = give (Some (object_in s.heap o).class) s
class_or_null Null s = give None s
class_or_null v s = stop Stuck s

-- null traps
abbrev pub class_of : Value → Run Class
class_of v = class_or_null v >>= not_null

abbrev pub load_at : Value → Option ℕ → Run Value
load_at v None = stop Stuck
load_at v (Some k) = load v (FieldSpot k)

abbrev pub load_in : Program → Value → List ℕ → Class → Run Value
load_in program o n (Object c) = load_at o (field_position program c n)
load_in program o n (Array t) = if bytes_eq n (codes "length") then load o Length else stop Stuck
load_in program o n class = stop Stuck

-- the field of a name that the object's class has, or an array's length
abbrev pub load_field : Program → List ℕ → Value → Run Value
load_field program n o = do
  class ← class_of o
  load_in program o n class

-- ---- writes

-- an object with another value in its k-th field or element
abbrev pub put : List HeapObject → ℕ → ℕ → Value → List HeapObject
put heap o k v = slice_set heap o (record { class = (object_in heap o).class; values = slice_set (object_in heap o).values k v })

abbrev pub store_at : ℕ → Option ℕ → Value → Run (Unit {0})
store_at o None v s = stop Stuck s
store_at o (Some k) v s = give tt (record s { heap = put s.heap o k v })

-- writes a field of an object; null traps
abbrev pub store : Program → Field → Value → Value → Run (Unit {0})
store program f (Reference o) v s = store_at o (spot_of_field program f (object_in s.heap o).class) v s
store program f Null v s = stop (Trapped NullPointerException) s
store program f w v s = stop Stuck s

abbrev pub store_new_if : Bool → Program → Field → ℕ → Value → Run (Unit {0})
store_new_if true program f o v s = stop Stuck s
store_new_if false program f o v s = store program f (Reference o) v s

-- writes a field of an object that the run itself has made
abbrev pub store_new : Program → Field → Value → Value → Run (Unit {0})
store_new program f (Reference o) v s = store_new_if (nat_lt o s.candidates) program f o v s
store_new program f w v s = stop Stuck s

abbrev pub store_index : ℕ → Option ℕ → Value → Run (Unit {0})
store_index o None v s = stop (Trapped ArrayIndexOutOfBoundsException) s
store_index o (Some k) v s = give tt (record s { heap = put s.heap o k v })

abbrev pub store_element_if : Bool → ℕ → ℤ → Value → Run (Unit {0})
store_element_if false o i v s = stop Stuck s
store_element_if true o i v s = store_index o (index_within i (length (object_in s.heap o).values)) v s

-- writes an element of an array with elements of a type: null traps, and an index that isn't below the length (15.26.1)
abbrev pub store_element : Program → JavaType → Value → Value → Value → Run (Unit {0})
store_element program t (Reference o) (Int i) v s = store_element_if (is_array_of program t (object_in s.heap o).class) o i v s
store_element program t Null (Int i) v s = stop (Trapped NullPointerException) s
store_element program t w x v s = stop Stuck s

-- a new object, after all others
abbrev pub make : Class → List Value → Run Value
make class values s = give (Reference (length s.heap)) (record s { heap = s.heap ++ record { class = class; values = values } ∷ [] })

abbrev pub with_members : List HeapObject → ℕ → List Value → List HeapObject
with_members heap o ms = slice_set heap o (record { class = (object_in heap o).class; values = ms })

abbrev pub collected_said : Result Value Kind → Result Value Stop
collected_said (Ok v) = Ok v
collected_said (Err k) = Err (Trapped k)

abbrev pub collect_as : Option Collected → ℕ → Run Value
collect_as None o s = stop Stuck s
collect_as (Some c) o s = record { said = collected_said c.given; after = record s { heap = with_members s.heap o c.members }; reads = [] }

-- a call on a collection by its name
abbrev pub collect : List ℕ → Value → List Value → Run Value
collect n (Reference o) arguments s = collect_as (collected (object_in s.heap o).class n arguments (object_in s.heap o).values) o s
collect n Null arguments s = stop (Trapped NullPointerException) s
collect n v arguments s = stop Stuck s
