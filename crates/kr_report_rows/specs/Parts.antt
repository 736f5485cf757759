-- Between crates: what a structure's entries have of an object and of the parameters, by the names of fields and parameters.
use Rattle.std.specs.Prelude.{ℕ, Bool, true, ◌&&◌, not, List, [], ◌∷◌, ◌++◌, flat_map, codes, if◌then◌else◌, Option, Some, None}
use Rattle.std.proofs.Common.{get_or}
use Rattle.kr_mean.specs.Places.{SlotPlace, This, Parameter, At}
use Rattle.kr_mean.specs.Heaps.{is_owner, is_same_object}
use Rattle.kr_mean.specs.Problem.{Problem, DomainObject, domain_at, slot_at}
use Rattle.kr_value.specs.declared.object.Class.{Class}
use Rattle.kr_value.specs.declared.object.Class.TheVariants.{Object, Array, Set, List as ListClass}
use Rattle.kr_value.specs.declared.object.Spot.{Spot}
use Rattle.kr_value.specs.declared.object.Spot.TheVariants.{Field, Length, Element}
use Rattle.kr_value.specs.declared.value.Value.{Value}
use Rattle.kr_report.specs.Texts.{in_brackets, joined_by, object_name, objects_in, value_text}

-- of a field `f=value`, of an element the value
abbrev pub spot_named : Problem → List (List ℕ) → Value → Spot → List (List ℕ)
spot_named problem names v (Field f) = (get_or names f [] ++ codes "=" ++ value_text problem v) ∷ []
spot_named problem names v Length = []
spot_named problem names v (Element i) = value_text problem v ∷ []

abbrev pub part_named : Problem → List (List ℕ) → Value → Option Spot → List (List ℕ)
part_named problem names v None = []
part_named problem names v (Some spot) = spot_named problem names v spot

-- the spot of an object's slot, of a parameter its number
abbrev pub spot_in : SlotPlace → Option Spot
spot_in This = None
spot_in (Parameter i) = None
spot_in (At o spot) = Some spot

abbrev pub number_in : SlotPlace → Option ℕ
number_in This = None
number_in (Parameter i) = Some i
number_in (At o spot) = None

-- the class of objects that have fields
abbrev pub class_in : Class → Option ℕ
class_in (Object c) = Some c
class_in (Array t) = None
class_in Set = None
class_in ListClass = None

-- the spot that a slot is of an object
abbrev pub spot_of : Problem → DomainObject → ℕ → Option Spot
spot_of problem o s = if is_owner o (slot_at problem s).owner then spot_in (slot_at problem s).place else None

-- what an entry has of an object
abbrev pub entry_named : Problem → List (List ℕ) → DomainObject → ℕ × Value → List (List ℕ)
entry_named problem names o p = part_named problem names p.1 (spot_of problem o p.0)

abbrev pub object_named : Problem → List (List ℕ) → List (ℕ × Value) → DomainObject → List ℕ
object_named problem names structure o =
    object_name problem o ++ in_brackets (domain_at problem o.domain).class (joined_by (codes ",") (flat_map (entry_named problem names o) structure))

-- `x=value` of a parameter
abbrev pub argument_named : Problem → List (List ℕ) → Value → Option ℕ → List (List ℕ)
argument_named problem names v None = []
argument_named problem names v (Some i) = (get_or names i [] ++ codes "=" ++ value_text problem v) ∷ []

abbrev pub parameter_named : Problem → List (List ℕ) → ℕ × Value → List (List ℕ)
parameter_named problem names p = argument_named problem names p.1 (number_in (slot_at problem p.0).place)

-- whether none of these is the same object
abbrev pub is_new : List DomainObject → DomainObject → Bool
is_new [] o = true
is_new (x ∷ xs) o = not (is_same_object x o) && is_new xs o

-- an object, where it isn't among those before it
abbrev pub new_in : List DomainObject → List DomainObject → List DomainObject
new_in before [] = []
new_in before (o ∷ os) = if is_new before o then o ∷ [] else []

abbrev pub entry_objects : Problem → ℕ × Value → List DomainObject
entry_objects problem p = objects_in problem p.1
