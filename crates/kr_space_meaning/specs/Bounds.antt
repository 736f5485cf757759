-- To be believed: the problem of a program, a document and a mode: its object domains are those of the document that have objects,
-- in the document's order, and then its array types; of an object the inherited fields come first.
use Rattle.std.specs.Prelude.{ℕ, zero, suc, ◌+◌, pos, List, [], ◌∷◌, ◌++◌, length, map, flat_map, max, ◌==◌, ◌&&◌, nat_lt, bytes_eq, codes, Option, Some, None, option_map, unwrap_or, slice_get, if◌then◌else◌}
use Rattle.kr_ast.specs.Tree.{Tree}
use Rattle.kr_classes_table.specs.Types.{JavaType, is_same}
use Rattle.kr_classes_table.specs.Table.{Table, Heading, Field, Parameter, table_of, fields_of, number_of}
use Rattle.kr_classes_table.specs.Arrays.{array_types_of, array_number, arrays_in, once}
use Rattle.kr_classes_table.specs.Numbers.{Width, Bits32}
use Rattle.kr_classes_table.specs.Operators.{number}
use Rattle.kr_value.specs.declared.value.Value.TheVariants.{Int, Bool as Truth, Null}
use Rattle.kr_value.specs.declared.object.Class.TheVariants.{Object, Array}
use Rattle.kr_value.specs.declared.object.Spot.TheVariants.{Field as FieldSpot, Length, Element}
use Rattle.kr_mean.specs.declared.mode.Mode.{Mode}
use Rattle.kr_mean.specs.declared.mode.Mode.TheVariants.{List as Listing, Method as Testing}
use Rattle.kr_mean.specs.Program.{Program, program_with}
use Rattle.kr_mean.specs.Problem.{Problem, ClassDomain, Domain, DomainItem, Plain, Objects, Spotted}
use Rattle.kr_space_layout.specs.Items.{integers}
use Rattle.kr_fin.specs.declared.document.FinDoc.{FinDoc}
use Rattle.kr_fin.specs.declared.document.Count.{Count}
use Rattle.kr_fin.specs.declared.document.ArrayBound.{ArrayBound}
use Rattle.kr_fin.specs.declared.document.NamedDomain.{NamedDomain}
use Rattle.kr_fin.specs.declared.document.Item.{Item as FinItem}
use Rattle.kr_fin.specs.declared.document.Item.TheVariants.{Number, Range, Truth as FinTruth, Name}
use Rattle.kr_space_meaning.specs.Names.{Meant, NoReference, Unknown, array_type, class_of, meant}
use Rattle.kr_space_meaning.specs.Names as names
use Rattle.kr_space_meaning.specs.Keys.{field_type, instance_alone, method_at, parameter_type, parameters_of}

abbrev Text : Type 0
Text = List ℕ

-- ---- a name in the document

-- the domain that is given for a key, if one is
abbrev pub given : List NamedDomain → Text → Option (List FinItem)
given [] key = None
given (d ∷ ds) key = if bytes_eq d.key key then Some d.domain else given ds key

-- ---- object domains and array types

abbrev pub classed : Option ℕ → Count → List (ℕ × Count)
classed None c = []
classed (Some k) c = (k, c) ∷ []

abbrev pub declared_by : List Heading → Count → List (ℕ × Count)
declared_by hs c = if nat_lt 0 c.count then classed (number_of hs c.class) c else []

-- the object domains that have objects, each with its class, in the document's order
abbrev pub declared : List Heading → List Count → List (ℕ × Count)
declared hs counts = flat_map (declared_by hs) counts

abbrev pub typed_bound : Option JavaType → ArrayBound → List (JavaType × ArrayBound)
typed_bound None b = []
typed_bound (Some t) b = (t, b) ∷ []

-- the array types that the document bounds, each with its type, in the document's order
abbrev pub bounded : List Heading → List ArrayBound → List (JavaType × ArrayBound)
bounded hs bounds = flat_map (λ b. typed_bound (array_type hs b.name) b) bounds

-- what a problem is made of: the class table, the array types by their numbers (those that only the document names come
-- after the program's), the object domains and the array types that the document has, and the document
pub record Setting : Type 0 where
  pub table : Table
  pub types : List JavaType
  pub objects : List (ℕ × Count)
  pub arrays : List (JavaType × ArrayBound)
  pub document : FinDoc

unfoldable pub setting_of : List Tree → FinDoc → Setting
setting_of files document =
    let table = table_of files in
    let arrays = bounded table.headings document.arrays in
    record {
      table = table;
      types = once [] (array_types_of files ++ flat_map (λ a. arrays_in a.0) arrays);
      objects = declared table.headings document.objects;
      arrays = arrays;
      document = document;
    }

abbrev pub class_name : Table → ℕ → Text
class_name table c = unwrap_or (option_map (λ h. h.name) (slice_get table.headings c)) []

-- ---- values

-- the number of the object domain that has a name, and a class, counted from d on, if it has objects
abbrev pub object_number : ℕ → List (ℕ × Count) → Text → ℕ → Option ℕ
object_number d [] name c = None
object_number d (o ∷ more) name c = if bytes_eq o.1.name name && (o.0 == c) then Some d else object_number (d + 1) more name c

-- the number of an array type that the document bounds, counted from d on
abbrev pub bound_number : ℕ → List (JavaType × ArrayBound) → JavaType → Option ℕ
bound_number d [] t = None
bound_number d (a ∷ more) t = if is_same a.0 t then Some d else bound_number (d + 1) more t

abbrev pub all_of : Option ℕ → List DomainItem
all_of None = []
all_of (Some d) = Objects d ∷ []

-- the values that a name stands for: null, or all objects of its object domain, or of its array type
abbrev pub meant_values : Setting → Text → Meant → List DomainItem
meant_values setting name NoReference = Plain Null ∷ []
meant_values setting name (names.Objects c) = all_of (object_number 0 setting.objects name c)
meant_values setting name (names.Arrays t) = all_of (bound_number (length setting.objects) setting.arrays t)
meant_values setting name Unknown = []

-- the width at which a domain's numbers are made: values have none, so it is the same for each type
unfoldable pub width_for : Option JavaType → Width
width_for t = Bits32

-- numbers of a width
abbrev pub item_values : Setting → Width → FinItem → List DomainItem
item_values setting w (Number z) = Plain (number w z) ∷ []
item_values setting w (Range from to) = map (λ z. Plain (number w z)) (integers from to)
item_values setting w (FinTruth b) = Plain (Truth b) ∷ []
item_values setting w (Name name) = meant_values setting name (meant setting.table.headings setting.document name)

abbrev pub values_with : Setting → Width → List FinItem → Domain
values_with setting w items = flat_map (item_values setting w) items

-- the values of a domain, in order: numbers are made for the type that is required
abbrev pub values_of : Setting → Option JavaType → List FinItem → Domain
values_of setting t items = values_with setting (width_for t) items

-- the lengths of a domain: its natural numbers, which are ints
abbrev pub lengths_in : List DomainItem → List DomainItem
lengths_in [] = []
lengths_in (Plain (Int (pos n)) ∷ items) = Plain (Int (pos n)) ∷ lengths_in items
lengths_in (item ∷ items) = lengths_in items

abbrev pub lengths_of : Setting → List FinItem → Domain
lengths_of setting items = lengths_in (values_with setting Bits32 items)

-- the values that are given for a key, for the type that the key requires: none where no domain is
abbrev pub values_given : Setting → (Text → Option JavaType) → List NamedDomain → Text → Domain
values_given setting asked domains key = values_of setting (asked key) (unwrap_or (given domains key) [])

-- the class of the root, if it has one
abbrev pub root_of : Setting → Option ℕ
root_of setting = class_of setting.table.headings setting.document setting.document.root

-- the values of a field or of elements, and of a parameter
abbrev pub field_values : Setting → Text → Domain
field_values setting key = values_given setting (field_type setting.table) setting.document.fields key

abbrev pub parameter_values : Setting → Text → Domain
parameter_values setting key = values_given setting (parameter_type setting.table (root_of setting)) setting.document.params key

-- ---- what the objects of a domain have

-- the key of a field: the class that declares it, a dot and its name
abbrev pub field_key : Table → Field → Text
field_key table f = class_name table f.class ++ codes "." ++ f.name

abbrev pub field_spots : Setting → ℕ → List Field → List Spotted
field_spots setting k [] = []
field_spots setting k (f ∷ fs) =
    record { spot = FieldSpot k; domain = field_values setting (field_key setting.table f) }
    ∷ field_spots setting (k + 1) fs

abbrev pub object_domain : Setting → ℕ × Count → ClassDomain
object_domain setting o = record {
  name = o.1.name;
  class = Object o.0;
  count = o.1.count;
  spots = field_spots setting 0 (fields_of setting.table o.0);
}

-- the greatest of some lengths
abbrev pub greatest : Domain → ℕ
greatest [] = 0
greatest (Plain (Int (pos n)) ∷ items) = max n (greatest items)
greatest (item ∷ items) = greatest items

abbrev pub element_spots : ℕ → ℕ → Domain → List Spotted
element_spots k zero domain = []
element_spots k (suc n) domain = record { spot = Element k; domain = domain } ∷ element_spots (k + 1) n domain

-- the key of an array type's elements
abbrev pub elements_key : Text → Text
elements_key name = name ++ codes ".*"

abbrev pub array_spots : Domain → Domain → List Spotted
array_spots lengths elements = record { spot = Length; domain = lengths } ∷ element_spots 0 (greatest lengths) elements

abbrev pub array_class_domain : Setting → JavaType × ArrayBound → ClassDomain
array_class_domain setting a = record {
  name = a.1.name;
  class = Array (unwrap_or (array_number setting.types a.0) 0);
  count = a.1.count;
  spots = array_spots (lengths_of setting a.1.lengths) (field_values setting (elements_key a.1.name));
}

abbrev pub domains_of : Setting → List ClassDomain
domains_of setting = map (object_domain setting) setting.objects ++ map (array_class_domain setting) setting.arrays

abbrev pub bounded_root : Setting → Option JavaType → Option ℕ
bounded_root setting None = None
bounded_root setting (Some t) = bound_number (length setting.objects) setting.arrays t

abbrev pub root_number : Setting → Option ℕ → Option ℕ
root_number setting (Some c) = object_number 0 setting.objects setting.document.root c
root_number setting None = bounded_root setting (array_type setting.table.headings setting.document.root)

-- the number of the root's domain; where it has none, the number of all domains
unfoldable pub root_domain : Setting → ℕ
root_domain setting = unwrap_or (root_number setting (root_of setting)) (length (domains_of setting))

-- ---- method and parameters

-- the parameters of the method under test, where one is tested that objects have
abbrev pub tested_parameters : Setting → Mode → List Parameter
tested_parameters setting Listing = []
tested_parameters setting (Testing name) = parameters_of (instance_alone (method_at setting.table (root_of setting) name))

-- the key of a parameter of the method under test
abbrev pub parameter_key : Mode → Parameter → Text
parameter_key Listing p = p.name
parameter_key (Testing name) p = name ++ codes "." ++ p.name

-- ---- the whole

unfoldable pub problem_in : Program → Setting → Mode → Problem
problem_in program setting mode = record {
  program = program;
  root = root_domain setting;
  mode = mode;
  parameters = map (λ p. parameter_values setting (parameter_key mode p)) (tested_parameters setting mode);
  fuel = setting.document.fuel;
  domains = domains_of setting;
}

-- the program with the array types that only the document names after its own
abbrev pub program_in : Setting → Program
program_in setting = program_with setting.table setting.types

abbrev pub problem_of : List Tree → FinDoc → Mode → Problem
problem_of files document mode = let setting = setting_of files document in problem_in (program_in setting) setting mode
