-- To be believed: problems: a program with its finitization, which gives each class a finite list of objects, its class domain,
-- and each field an ordered finite list of values (the Korat paper, section on finitization).
use Rattle.std.specs.Prelude.{ℕ, zero, suc, ◌+◌, List, [], ◌∷◌, ◌++◌, map, flat_map, Option, Some, None}
use Rattle.std.specs.List.{range_with_len}
use Rattle.std.proofs.Common.{get_or}
use Rattle.kr_value.specs.declared.value.Value.{Value}
use Rattle.kr_value.specs.declared.value.Value.TheVariants.{Ref as Reference}
use Rattle.kr_value.specs.declared.object.Class.{Class}
use Rattle.kr_value.specs.declared.object.Class.TheVariants.{Object}
use Rattle.kr_value.specs.declared.object.Spot.{Spot}
use Rattle.kr_mean.specs.declared.mode.Mode.{Mode}
use Rattle.kr_mean.specs.Program.{Program}
use Rattle.kr_mean.specs.Places.{SlotPlace, This, Parameter, At}

-- one entry of a domain: a plain value, or all objects of a class domain, in order
pub data DomainItem : Type 0 where
  Plain : Value → DomainItem
  Objects : ℕ → DomainItem

abbrev pub Domain : Type 0
Domain = List DomainItem

pub record Spotted : Type 0 where
  pub spot : Spot
  pub domain : Domain

-- The objects of one class or array type, and what each has: of a class its fields, those of the superclass first; of
-- an array type the length and as many elements as its greatest length. The name is that of the class or array type.
pub record ClassDomain : Type 0 where
  pub name : List ℕ
  pub class : Class
  pub count : ℕ
  pub spots : List Spotted

pub record Problem : Type 0 where
  pub program : Program
  -- the class domain of the root's objects
  pub root : ℕ
  pub mode : Mode
  -- of the parameters of the method under test; none in a listing
  pub parameters : List Domain
  pub fuel : ℕ
  pub domains : List ClassDomain

-- ---- objects

-- an object of a class domain
pub record DomainObject : Type 0 where
  pub domain : ℕ
  pub number : ℕ

abbrev pub no_objects : ClassDomain
no_objects = record { name = []; class = Object 0; count = 0; spots = [] }

abbrev pub domain_at : Problem → ℕ → ClassDomain
domain_at problem d = get_or problem.domains d no_objects

abbrev pub upto : ℕ → List ℕ
upto n = range_with_len 0 n

abbrev pub objects_of_domain : ℕ → ClassDomain → List DomainObject
objects_of_domain d domain = map (λ k. record { domain = d; number = k }) (upto domain.count)

abbrev pub objects_from : ℕ → List ClassDomain → List DomainObject
objects_from d [] = []
objects_from d (domain ∷ domains) = objects_of_domain d domain ++ objects_from (d + 1) domains

-- the objects of all class domains, in the order of their numbers in the heap
abbrev pub all_objects : Problem → List DomainObject
all_objects problem = objects_from 0 problem.domains

-- how many objects the class domains before one have
abbrev pub objects_before : ℕ → List ClassDomain → ℕ
objects_before zero domains = 0
objects_before (suc d) [] = 0
objects_before (suc d) (domain ∷ domains) = domain.count + objects_before d domains

-- an object's number in the heap
abbrev pub heap_number : Problem → DomainObject → ℕ
heap_number problem o = objects_before o.domain problem.domains + o.number

-- ---- slots and their domains

pub record Slot : Type 0 where
  pub place : SlotPlace
  pub owner : Option DomainObject
  pub domain : Domain

abbrev pub this_slot : Problem → Slot
this_slot problem = record { place = This; owner = None; domain = Objects problem.root ∷ [] }

abbrev pub parameter_slots : ℕ → List Domain → List Slot
parameter_slots i [] = []
parameter_slots i (domain ∷ domains) = record { place = Parameter i; owner = None; domain = domain } ∷ parameter_slots (i + 1) domains

abbrev pub slots_of_object : Problem → DomainObject → List Slot
slots_of_object problem o =
    map (λ s. record { place = At (heap_number problem o) s.spot; owner = Some o; domain = s.domain }) (domain_at problem o.domain).spots

-- all slots: `this`, the parameters of the method under test, and what each object has
abbrev pub slots : Problem → List Slot
slots problem = this_slot problem ∷ (parameter_slots 0 problem.parameters ++ flat_map (slots_of_object problem) (all_objects problem))

abbrev pub no_slot : Slot
no_slot = record { place = This; owner = None; domain = [] }

abbrev pub slot_at : Problem → ℕ → Slot
slot_at problem s = get_or (slots problem) s no_slot

-- a value of a domain, and the object that it is where it is one
pub record Choice : Type 0 where
  pub value : Value
  pub object : Option DomainObject

abbrev pub object_choice : Problem → DomainObject → Choice
object_choice problem o = record { value = Reference (heap_number problem o); object = Some o }

abbrev pub item_choices : Problem → DomainItem → List Choice
item_choices problem (Plain v) = record { value = v; object = None } ∷ []
item_choices problem (Objects d) = map (object_choice problem) (objects_of_domain d (domain_at problem d))

-- the values of a domain, in order
abbrev pub choices_in : Problem → Domain → List Choice
choices_in problem domain = flat_map (item_choices problem) domain

abbrev pub choices_at : Problem → ℕ → List Choice
choices_at problem s = choices_in problem (slot_at problem s).domain
