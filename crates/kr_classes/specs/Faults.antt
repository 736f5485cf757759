-- Between crates: the first place at which a class rule on names is broken.
use Rattle.std.specs.Prelude.{◌≡◌, ℕ, ◌-◌, ◌<◌, ◌||◌, not, List, [], ◌∷◌, length, map, take, flat_map, codes, Option, Some, None, slice_index_or, if◌then◌else◌}
use Rattle.kr_base.specs.declared.place.Place.{Place}
use Rattle.kr_ast.specs.Arena.{Arena}
use Rattle.kr_ast.specs.Tree.{Nil}
use Rattle.kr_classes_table.specs.Table.{Table, Class, Field, Method, super_of, line_within, ancestors, is_among, is_number, number_of, own_fields}
use Rattle.kr_classes_table.specs.Rules.{Fault, break_if, each_class, is_earlier, is_name_among, least}
use Rattle.kr_classes_names.specs.declared.class_names.Heads.{Heads}
use Rattle.kr_classes_names.specs.Shown.{AreHeads}
use Rattle.kr_classes_members.specs.Shown.{table_in}

-- the earlier of two places, each of which may be absent
abbrev pub sooner_place : Option Place → Option Place → Option Place
sooner_place None o = o
sooner_place (Some p) None = Some p
sooner_place (Some p) (Some q) = if is_earlier q p then Some q else Some p

-- the rule's fault at this place, if there is one
abbrev pub fault_at : ℕ → Option Place → Option Fault
fault_at rule None = None
fault_at rule (Some p) = Some (record { place = p; rule = rule })

abbrev pub superclass_at : List (Option ℕ) → ℕ → Option ℕ
superclass_at supers c = slice_index_or supers c None

-- a superclass is one of the classes
abbrev pub AreBelow : List (Option ℕ) → Type 0
AreBelow supers = (c d : ℕ) → superclass_at supers c ≡ Some d → d < length supers

-- the superclass of each class of the table
pub record AreSuperclasses (supers : List (Option ℕ)) (t : Table) : Type 0 where
  pub count : length supers ≡ length t.classes
  pub each : (c : ℕ) → c < length supers → super_of t c ≡ superclass_at supers c

-- after some steps upwards, the search for the class continues on the line from here
abbrev pub IsLeft : List (Option ℕ) → ℕ → ℕ → Option ℕ → Type 0
IsLeft supers class steps at = (t : Table) → AreSuperclasses supers t → is_among class (line_within (length supers - steps) t at) ≡ is_among class (ancestors t class)

abbrev pub IsWithin : List (Option ℕ) → Option ℕ → Type 0
IsWithin supers at = (d : ℕ) → at ≡ Some d → d < length supers

-- a class rule, by the class and its number
abbrev pub ClassRule : Type 0
ClassRule = Table → ℕ → Class → List Fault

-- the first place at which a class rule is broken
abbrev pub first_of_rule : ClassRule → Table → Option Fault
first_of_rule rule t = least (each_class (rule t) 0 t.classes)

-- for the first classes of a table
abbrev pub IsFirstIn : ℕ → ClassRule → Table → ℕ → Option Place → Type 0
IsFirstIn n rule t count first = fault_at n first ≡ least (each_class (rule t) 0 (take count t.classes))

-- for each table with these heads and superclasses
abbrev pub IsFirstOf : ℕ → ClassRule → Heads → List (Option ℕ) → ℕ → Option Place → Type 0
IsFirstOf n rule heads supers count first = (files : List Arena) → AreHeads files heads → AreSuperclasses supers (table_in files) → IsFirstIn n rule (table_in files) count first

-- the names that are kept for the collections
abbrev pub collections : List (List ℕ)
collections = codes "HashSet" ∷ codes "LinkedList" ∷ []

-- a class has the name of a collection, or that of a class before it
abbrev pub repeats : ClassRule
repeats t c d = break_if (is_name_among d.name collections || not (is_number (number_of t.headings d.name) (Some c))) 1 d.place

-- ---- members

-- a class that isn't there
abbrev pub no_class : Class
no_class = record { name = []; place = record { file = 0; line = 0; col = 0 }; outer = None; extended = Nil; super = None; fields = []; methods = []; constructors = [] }

-- a class of the table by its number
abbrev pub class_in : Table → ℕ → Class
class_in t c = slice_index_or t.classes c no_class

-- the names of the fields and constants that a class inherits
abbrev pub inherited_names : Table → ℕ → List (List ℕ)
inherited_names t c = map (λ f. f.name) (flat_map (own_fields t) (ancestors t c))

abbrev pub field_places : List Field → List (List ℕ × Place)
field_places fs = map (λ f. (f.name, f.place)) fs

abbrev pub method_places : List Method → List (List ℕ × Place)
method_places ms = map (λ m. (m.name, m.place)) ms
