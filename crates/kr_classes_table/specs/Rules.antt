-- To be believed: the class rules, and the first broken one.
use Rattle.std.specs.Prelude.{ℕ, ◌+◌, ◌-◌, Bool, true, false, ◌&&◌, ◌||◌, not, List, [], ◌∷◌, ◌++◌, length, map, drop, flat_map, nat_eq, nat_lt, bytes_eq, if◌then◌else◌, Option, Some, None, option_to_list, is_none, codes}
use Rattle.kr_base.specs.declared.place.Place.{Place}
use Rattle.kr_ast.specs.Tree as trees
use Rattle.kr_ast.specs.Tree.{Tree}
use Rattle.kr_classes_table.specs.Types.{JavaType, is_same, is_reference}
use Rattle.kr_classes_table.specs.Predefined.{PREDEFINED}
use Rattle.kr_classes_table.specs.Table.{Table, Class, Field, Parameter, Method, ancestors, is_among, own_fields, method_on, fields_of, is_assignable}

-- a rule that is broken, and where
pub record Fault : Type 0 where
  pub place : Place
  pub rule : ℕ

-- the smaller number, and where they are equal what is left decides
abbrev pub less_or : ℕ → ℕ → Bool → Bool
less_or a b rest = if nat_eq a b then rest else nat_lt a b

-- the earlier file, there the earlier line, there the earlier column
abbrev pub is_earlier : Place → Place → Bool
is_earlier p q = less_or p.file q.file (less_or p.line q.line (nat_lt p.col q.col))

-- the earlier place, there the smaller rule
abbrev pub is_before : Fault → Fault → Bool
is_before f g = less_or f.place.file g.place.file (less_or f.place.line g.place.line (less_or f.place.col g.place.col (nat_lt f.rule g.rule)))

abbrev pub sooner : Option Fault → Option Fault → Option Fault
sooner None g = g
sooner (Some f) None = Some f
sooner (Some f) (Some g) = if is_before g f then Some g else Some f

-- the first in the text, and there the least rule
abbrev pub least : List Fault → Option Fault
least [] = None
least (f ∷ fs) = sooner (Some f) (least fs)

abbrev pub break_if : Bool → ℕ → Place → List Fault
break_if true r p = record { place = p; rule = r } ∷ []
break_if false r p = []

-- each class with its number
abbrev pub each_class : (ℕ → Class → List Fault) → ℕ → List Class → List Fault
each_class rule c [] = []
each_class rule c (d ∷ ds) = rule c d ++ each_class rule (c + 1) ds

abbrev pub is_name_among : List ℕ → List (List ℕ) → Bool
is_name_among n [] = false
is_name_among n (m ∷ ms) = bytes_eq n m || is_name_among n ms

-- each item whose name occurred before
abbrev pub repeated : ℕ → List (List ℕ) → List (List ℕ × Place) → List Fault
repeated r seen [] = []
repeated r seen ((n, p) ∷ more) = break_if (is_name_among n seen) r p ++ repeated r (n ∷ seen) more

-- C1: two classes have one name, or one that of a collection; at the later of the two
abbrev pub C1 : Table → List Fault
C1 t = repeated 1 (codes "HashSet" ∷ codes "LinkedList" ∷ []) (map (λ d. (d.name, d.place)) t.classes)

-- the place of a class's name that `extends` names
abbrev pub extended_at : Tree → List Place
extended_at (trees.NamedType p n) = p ∷ []
extended_at (trees.QualifiedType p o n) = p ∷ []
extended_at _ = []

-- C2: `extends` names no class; at the name after it
abbrev pub C2 : Table → ℕ → Class → List Fault
C2 t c d = flat_map (break_if (is_none d.super) 2) (extended_at d.extended)

-- C3: a class is its own ancestor
abbrev pub C3 : Table → ℕ → Class → List Fault
C3 t c d = break_if (is_among c (ancestors t c)) 3 d.place

-- C4: a class has two fields of one name, or one with an inherited one's name, or two constructors
abbrev pub C4 : Table → ℕ → Class → List Fault
C4 t c d =
    repeated 4 (map (λ f. f.name) (flat_map (own_fields t) (ancestors t c))) (map (λ f. (f.name, f.place)) d.fields)
    ++ flat_map (λ k. break_if true 4 k.place) (drop 1 d.constructors)

abbrev pub same_types : List Parameter → List Parameter → Bool
same_types [] [] = true
same_types (a ∷ more) (b ∷ others) = is_same a.type b.type && same_types more others
same_types _ _ = false

-- the method of a name that a class inherits
abbrev pub inherited : Table → ℕ → Method → List Method
inherited t c m = option_to_list (method_on t (ancestors t c) m.name)

-- each method with the one that it overrides
abbrev pub overrides : Table → ℕ → ℕ → (Method → Method → Bool) → Method → List Fault
overrides t c r fits m = flat_map (λ above. break_if (not (fits m above)) r m.place) (inherited t c m)

-- C5: a class has two methods of one name, or one with an inherited name and other parameter types
abbrev pub C5 : Table → ℕ → Class → List Fault
C5 t c d = repeated 5 [] (map (λ m. (m.name, m.place)) d.methods) ++ flat_map (overrides t c 5 (λ m above. same_types m.parameters above.parameters)) d.methods

-- the methods of every object
abbrev pub object_methods : List (List ℕ)
object_methods = codes "equals" ∷ codes "hashCode" ∷ codes "toString" ∷ codes "clone" ∷ codes "finalize" ∷ codes "getClass" ∷ []

-- C6: a method has the name of one that every object has
abbrev pub C6 : Table → ℕ → Class → List Fault
C6 t c d = flat_map (λ m. break_if (is_name_among m.name object_methods) 6 m.place) d.methods

abbrev pub result_fits : Table → JavaType → JavaType → Bool
result_fits t s u = is_same s u || (is_reference s && is_reference u && is_assignable t s u)

-- C7: an overriding method differs in `static`, or its result is neither equal nor an assignable reference type
abbrev pub C7 : Table → ℕ → Class → List Fault
C7 t c d = flat_map (overrides t c 7 (λ m above. (if m.is_static then above.is_static else not above.is_static) && result_fits t m.result above.result)) d.methods

-- own fields beyond a count
abbrev pub past : ℕ → List Field → List Fault
past n fs = flat_map (λ f. break_if true 8 f.place) (drop n fs)

abbrev pub own_instance_fields : Class → List Field
own_instance_fields d = flat_map (λ f. if f.is_static then [] else f ∷ []) d.fields

-- C8: more than 64 classes beside the predefined ones, or more than 32 instance fields in one, inherited ones with them
abbrev pub C8 : Table → ℕ → Class → List Fault
C8 t c d = break_if (nat_lt (63 + PREDEFINED) c) 8 d.place ++ past (32 - (length (fields_of t c) - length (own_instance_fields d))) (own_instance_fields d)

abbrev pub first_of : List (Option Fault) → Option Fault
first_of [] = None
first_of (Some f ∷ fs) = Some f
first_of (None ∷ fs) = first_of fs

-- the first place of the least broken rule
unfoldable pub class_fault : Table → Option Fault
class_fault t =
    let rule : (Table → ℕ → Class → List Fault) → Option Fault = λ r. least (each_class (r t) 0 t.classes) in
    first_of (least (C1 t) ∷ rule C2 ∷ rule C3 ∷ rule C4 ∷ rule C5 ∷ rule C6 ∷ rule C7 ∷ rule C8 ∷ [])
