-- To be believed: the two collections of the library: members are compared by identity, and null is one. A list keeps them in
-- the order in which they were added; a set has each once.
use Rattle.std.specs.Prelude.{ℕ, pos, Bool, true, false, not, ◌||◌, List, [], ◌∷◌, ◌++◌, length, min, nat_eq, bytes_eq, codes, if◌then◌else◌, Option, Some, None, Result, Ok, Err}
use Rattle.std.specs.Ordering.{int_eq}
use Rattle.kr_value.specs.declared.value.Value.{Value}
use Rattle.kr_value.specs.declared.value.Value.TheVariants.{Int, Bool as Truth, Null, Ref as Reference}
use Rattle.kr_value.specs.declared.object.Class.{Class}
use Rattle.kr_value.specs.declared.object.Class.TheVariants.{Set, List as ListClass}
use Rattle.kr_mean.specs.declared.kind.Kind.{Kind}
use Rattle.kr_mean.specs.declared.kind.Kind.TheVariants.{NoSuchElementException}

-- numbers and booleans compare by value, references by identity (15.21)
abbrev pub is_same_value : Value → Value → Bool
is_same_value (Reference o) (Reference p) = nat_eq o p
is_same_value (Int m) (Int n) = int_eq m n
is_same_value (Truth true) (Truth b) = b
is_same_value (Truth false) (Truth b) = not b
is_same_value Null Null = true
is_same_value v w = false

abbrev pub has_member : Value → List Value → Bool
has_member v [] = false
has_member v (m ∷ ms) = is_same_value m v || has_member v ms

-- without the first one that is the same
abbrev pub without : Value → List Value → List Value
without v [] = []
without v (m ∷ ms) = if is_same_value m v then ms else m ∷ without v ms

-- the result of a call, and the members after it
pub record Collected : Type 0 where
  pub given : Result Value Kind
  pub members : List Value

abbrev pub gives : Value → List Value → Option Collected
gives v ms = Some (record { given = Ok v; members = ms })

abbrev pub added_once : Bool → Value → List Value → Option Collected
added_once true v ms = gives (Truth false) ms
added_once false v ms = gives (Truth true) (ms ++ v ∷ [])

-- calls with one argument
abbrev pub add : Class → Value → List Value → Option Collected
add Set v ms = added_once (has_member v ms) v ms
add ListClass v ms = gives (Truth true) (ms ++ v ∷ [])
add class v ms = None

abbrev pub remove_first : Class → List Value → Option Collected
remove_first ListClass [] = Some (record { given = Err NoSuchElementException; members = [] })
remove_first ListClass (m ∷ ms) = gives m ms
remove_first class ms = None

abbrev pub is_collection : Class → Bool
is_collection Set = true
is_collection ListClass = true
is_collection class = false

abbrev pub is_empty : List Value → Bool
is_empty [] = true
is_empty (m ∷ ms) = false

abbrev pub called_with : Class → List ℕ → Value → List Value → Option Collected
called_with class n v ms =
    if bytes_eq n (codes "add") then add class v ms else (
    if bytes_eq n (codes "contains") then gives (Truth (has_member v ms)) ms else (
    if bytes_eq n (codes "remove") then gives (Truth (has_member v ms)) (without v ms) else None))

-- and with none; a size is at most the greatest int
abbrev pub called_alone : Class → List ℕ → List Value → Option Collected
called_alone class n ms =
    if bytes_eq n (codes "size") then gives (Int (pos (min (length ms) 2147483647))) ms else (
    if bytes_eq n (codes "isEmpty") then gives (Truth (is_empty ms)) ms else (
    if bytes_eq n (codes "removeFirst") then remove_first class ms else None))

abbrev pub called_on : Class → List ℕ → List Value → List Value → Option Collected
called_on class n [] ms = called_alone class n ms
called_on class n (v ∷ []) ms = called_with class n v ms
called_on class n vs ms = None

-- a call on what is of a class, by its name, with arguments and members; none where there is no such call
abbrev pub collected : Class → List ℕ → List Value → List Value → Option Collected
collected class n vs ms = if is_collection class then called_on class n vs ms else None
