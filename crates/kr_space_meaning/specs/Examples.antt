-- Between crates: small sources with finitizations, their problems, and the rules that others break, worked by hand.
use Rattle.std.specs.Prelude.{◌≡◌, ◌++◌, ℕ, pos, negsuc, Bool, true, false, List, [], ◌∷◌, Option, Some, None, codes, map}
use Rattle.kr_ast.specs.declared.node.BinaryOperator.TheVariants.{Equal}
use Rattle.kr_ast.specs.Tree as trees
use Rattle.kr_ast.specs.Tree.{Tree, Nil}
use Rattle.kr_ast.specs.declared.node.Primitive.TheVariants.{Int as IntName, Boolean as BooleanName}
use Rattle.kr_classes_table.specs.Predefined.{with_predefined}
use Rattle.kr_classes_table.specs.Types.{JavaType, int_type, BooleanType, ArrayType}
use Rattle.kr_value.specs.declared.value.Value.TheVariants.{Int, Bool as TruthValue, Null}
use Rattle.kr_value.specs.declared.object.Class.TheVariants.{Object, Array}
use Rattle.kr_value.specs.declared.object.Spot.TheVariants.{Field, Length, Element}
use Rattle.kr_mean.specs.declared.mode.Mode.{Mode}
use Rattle.kr_mean.specs.declared.mode.Mode.TheVariants.{List as Listing, Method as Testing}
use Rattle.kr_mean.specs.Problem.{ClassDomain, Domain, Spotted, Plain, Objects}
use Rattle.kr_fin.specs.declared.document.FinDoc.{FinDoc}
use Rattle.kr_fin.specs.declared.document.Count.{Count}
use Rattle.kr_fin.specs.declared.document.ArrayBound.{ArrayBound}
use Rattle.kr_fin.specs.declared.document.NamedDomain.{NamedDomain}
use Rattle.kr_fin.specs.declared.document.Item.{Item as FinItem}
use Rattle.kr_fin.specs.declared.document.Item.TheVariants.{Number, Range, Truth, Name}
use Rattle.kr_space_meaning.specs.Order.{Fault, least, rule_code}
use Rattle.kr_space_meaning.specs.Bounds.{problem_of}
use Rattle.kr_space_meaning.specs.Meaning.{faults_of}
use Rattle.kr_base.specs.Places.{nowhere}
use Rattle.kr_types_meaning.specs.Texts.{list_of}

abbrev Text : Type 0
Text = List ℕ

-- ---- sources

abbrev pub one : Tree → Tree
one t = list_of (t ∷ [])

-- `0 == 0`
abbrev pub always : Tree
always = trees.Binary nowhere Equal (trees.Number nowhere 0) (trees.Number nowhere 0)

-- `boolean repOk() { return TEST; }`
abbrev pub rep_ok_of : Tree → Tree
rep_ok_of test = trees.Method nowhere false (codes "repOk") (trees.Signature nowhere (trees.PrimitiveType nowhere BooleanName) Nil Nil) (one (trees.Return nowhere test))

abbrev pub field_of : Tree → Text → Tree
field_of type name = trees.Field nowhere false false type (one (trees.Declarator nowhere name Nil))

abbrev pub int_field : Text → Tree
int_field name = field_of (trees.PrimitiveType nowhere IntName) name

abbrev pub class_field : Text → Text → Tree
class_field class name = field_of (trees.NamedType nowhere class) name

abbrev pub class_named : Text → List Tree → Tree
class_named name members = trees.Class nowhere name Nil (list_of members)

abbrev pub named : Text → Tree
named n = trees.NamedType nowhere n

abbrev pub below : Text → Text → List Tree → Tree
below super n members = trees.Class nowhere n (named super) (list_of members)

abbrev pub array_of : Tree → Tree
array_of t = trees.ArrayType nowhere t

abbrev pub int : Tree
int = trees.PrimitiveType nowhere IntName

abbrev pub boolean : Tree
boolean = trees.PrimitiveType nowhere BooleanName

-- `boolean NAME(TYPE x) { return 0 == 0; }`
abbrev pub method_of : Text → Tree → Tree
method_of name type = trees.Method nowhere false name (trees.Signature nowhere boolean (one (trees.Parameter nowhere type (codes "x"))) Nil) (one (trees.Return nowhere always))

-- a node with a next one, and a predicate
abbrev pub node : Tree
node = class_named (codes "N") (class_field (codes "N") (codes "next") ∷ rep_ok_of always ∷ [])

-- a class with a field, and a root below it with a field of its own and the predicate
abbrev pub with_heir : List Tree
with_heir = class_named (codes "Base") (int_field (codes "a") ∷ rep_ok_of always ∷ method_of (codes "put") boolean ∷ [])
    ∷ below (codes "Base") (codes "R") (class_field (codes "Base") (codes "b") ∷ []) ∷ []

-- a root with an array of arrays
abbrev pub with_arrays : List Tree
with_arrays = class_named (codes "R") (field_of (array_of (array_of int)) (codes "a") ∷ rep_ok_of always ∷ []) ∷ []

abbrev pub files : List Tree → List Tree
files classes = list_of classes ∷ []

-- ---- documents

abbrev pub objects : Text → ℕ → Count
objects name count = record { name = name; class = name; count = count }

abbrev pub given : Text → List FinItem → NamedDomain
given key domain = record { key = key; domain = domain }

abbrev pub arrays : Text → ℕ → List FinItem → ArrayBound
arrays name count lengths = record { name = name; count = count; lengths = lengths }

abbrev pub plain_document : Text → List Count → List NamedDomain → FinDoc
plain_document root counts fields = record { version = 1; root = root; fuel = 9; objects = counts; arrays = []; fields = fields; params = [] }

abbrev pub name : Text → FinItem
name n = Name n

-- ---- their problems

abbrev pub domains : List Tree → FinDoc → List ClassDomain
domains classes document = (problem_of (files classes) document Listing).domains

-- the array types of the problem's program, by their numbers
abbrev pub array_types : List Tree → FinDoc → List JavaType
array_types classes document = (problem_of (files classes) document Listing).program.arrays

-- how many values each parameter of the method under test has
abbrev pub parameters : List Tree → FinDoc → Text → List Domain
parameters classes document method = (problem_of (files classes) document (Testing method)).parameters

abbrev pub shown : Option Fault → Option (Text × Text)
shown None = None
shown (Some fault) = Some (rule_code fault.rule, fault.item)

abbrev pub refused : List Tree → FinDoc → Mode → Option (Text × Text)
refused classes document mode = shown (least (faults_of (files classes) document mode))

-- the same of a program with the predefined classes
abbrev pub refused_beside : List Tree → FinDoc → Mode → Option (Text × Text)
refused_beside classes document mode = shown (least (faults_of (with_predefined (files classes)) document mode))

abbrev pub broken : Text → Text → Option (Text × Text)
broken rule item = Some (rule, item)

-- ---- documents for the sources above

abbrev pub two_nodes : FinDoc
two_nodes = plain_document (codes "N") (objects (codes "N") 2 ∷ []) (given (codes "N.next") (name (codes "null") ∷ name (codes "N") ∷ []) ∷ [])

-- one node, and other values of its field
abbrev pub node_with : List FinItem → FinDoc
node_with items = plain_document (codes "N") (objects (codes "N") 1 ∷ []) (given (codes "N.next") items ∷ [])

abbrev pub of_heir : List Count → List FinItem → List FinItem → FinDoc
of_heir counts a b = plain_document (codes "R") counts (given (codes "Base.a") a ∷ given (codes "R.b") b ∷ [])

abbrev pub one_heir : List Count
one_heir = objects (codes "Base") 2 ∷ objects (codes "R") 1 ∷ []

-- an array of two arrays of one number, and an array type that only the document names
abbrev pub of_arrays : List FinItem → List FinItem → FinDoc
of_arrays lengths numbers = record {
  version = 1;
  root = codes "R";
  fuel = 9;
  objects = objects (codes "R") 1 ∷ [];
  arrays = arrays (codes "boolean[]") 1 (Number (pos 0) ∷ []) ∷ arrays (codes "int[]") 2 (Number (pos 1) ∷ []) ∷ arrays (codes "int[][]") 1 lengths ∷ [];
  fields = given (codes "R.a") (name (codes "int[][]") ∷ []) ∷ given (codes "int[].*") numbers ∷ given (codes "int[][].*") (name (codes "null") ∷ name (codes "int[]") ∷ []) ∷ [];
  params = [];
}

abbrev pub with_params : List NamedDomain → FinDoc
with_params params = record {
  version = 1;
  root = codes "R";
  fuel = 9;
  objects = one_heir;
  arrays = [];
  fields = given (codes "Base.a") (Number (pos 0) ∷ []) ∷ given (codes "R.b") (name (codes "R") ∷ []) ∷ [];
  params = params;
}

-- `static boolean NAME(TYPE x) { return 0 == 0; }`
abbrev pub static_method : Text → Tree → Tree
static_method name type = trees.Method nowhere true name (trees.Signature nowhere boolean (one (trees.Parameter nowhere type (codes "x"))) Nil) (one (trees.Return nowhere always))

-- a method without parameters
abbrev pub without_parameters : Bool → Text → Tree → Tree
without_parameters is_static name result = trees.Method nowhere is_static name (trees.Signature nowhere result Nil Nil) (one (trees.Return nowhere always))

-- `static final int NAME = 0;`
abbrev pub constant : Text → Tree
constant name = trees.Field nowhere true true int (one (trees.Declarator nowhere name (trees.Number nowhere 0)))

-- the class N with a `next` and these members
abbrev pub node_and : List Tree → List Tree
node_and members = class_named (codes "N") (class_field (codes "N") (codes "next") ∷ members) ∷ []

-- two classes, the second without objects
abbrev pub two_classes : List Tree
two_classes = class_named (codes "Other") [] ∷ node ∷ []

-- 63 arrays of 64 numbers, which have 4,095 slots
abbrev pub long_arrays : List NamedDomain → FinDoc
long_arrays fields = record {
  version = 1;
  root = codes "R";
  fuel = 9;
  objects = objects (codes "R") 1 ∷ [];
  arrays = arrays (codes "int[]") 63 (Number (pos 64) ∷ []) ∷ [];
  fields = fields ++ given (codes "int[].*") (Number (pos 0) ∷ []) ∷ [];
  params = [];
}

abbrev pub plain_root : List Tree → List Tree
plain_root fields = class_named (codes "R") (fields ++ rep_ok_of always ∷ []) ∷ []

-- one node, and an array type with these lengths
abbrev pub bounding : Text → List FinItem → FinDoc
bounding type lengths = record {
  version = 1;
  root = codes "N";
  fuel = 9;
  objects = objects (codes "N") 1 ∷ [];
  arrays = arrays type 1 lengths ∷ [];
  fields = given (codes "N.next") (name (codes "null") ∷ []) ∷ [];
  params = [];
}

abbrev pub with_parameter : FinDoc → Text → List FinItem → FinDoc
with_parameter document key items = record document { params = given key items ∷ [] }

-- ---- the rows

abbrev pub at : ℕ → Domain → Spotted
at f domain = record { spot = Field f; domain = domain }

abbrev pub int_items : List ℕ → Domain
int_items numbers = map (λ n. Plain (Int (pos n))) numbers

pub record Problems : Type 0 where
  pub of_nodes : domains (node ∷ []) two_nodes ≡ record { name = codes "N"; class = Object 0; count = 2; spots = at 0 (Plain Null ∷ Objects 0 ∷ []) ∷ [] } ∷ []
  pub of_heirs : domains with_heir (of_heir one_heir (Range (negsuc 0) (pos 1) ∷ Number (pos 7) ∷ []) (name (codes "R") ∷ name (codes "Base") ∷ []))
      ≡ record { name = codes "Base"; class = Object 0; count = 2; spots = at 0 (Plain (Int (negsuc 0)) ∷ int_items (0 ∷ 1 ∷ 7 ∷ [])) ∷ [] }
      ∷ record { name = codes "R"; class = Object 1; count = 1; spots = at 0 (Plain (Int (negsuc 0)) ∷ int_items (0 ∷ 1 ∷ 7 ∷ [])) ∷ at 1 (Objects 1 ∷ Objects 0 ∷ []) ∷ [] } ∷ []
  pub of_array_types : domains with_arrays (of_arrays (Number (pos 0) ∷ Number (pos 2) ∷ []) (Number (pos 7) ∷ []))
      ≡ record { name = codes "R"; class = Object 0; count = 1; spots = at 0 (Objects 3 ∷ []) ∷ [] }
      ∷ record { name = codes "boolean[]"; class = Array 2; count = 1; spots = record { spot = Length; domain = int_items (0 ∷ []) } ∷ [] }
      ∷ record { name = codes "int[]"; class = Array 0; count = 2; spots = record { spot = Length; domain = int_items (1 ∷ []) } ∷ record { spot = Element 0; domain = int_items (7 ∷ []) } ∷ [] }
      ∷ record { name = codes "int[][]"; class = Array 1; count = 1; spots = record { spot = Length; domain = int_items (0 ∷ 2 ∷ []) } ∷ record { spot = Element 0; domain = Plain Null ∷ Objects 2 ∷ [] } ∷ record { spot = Element 1; domain = Plain Null ∷ Objects 2 ∷ [] } ∷ [] } ∷ []
  -- the array types that only the document names have numbers after the program's own
  pub of_named_types : array_types with_arrays (of_arrays (Number (pos 0) ∷ []) (Number (pos 7) ∷ [])) ≡ ArrayType int_type ∷ ArrayType (ArrayType int_type) ∷ ArrayType BooleanType ∷ []
  pub of_parameters : parameters with_heir (with_params (given (codes "put.x") (Truth true ∷ []) ∷ [])) (codes "put") ≡ (Plain (TruthValue true) ∷ []) ∷ []
  pub of_numbers_given : parameters (node_and (rep_ok_of always ∷ method_of (codes "put") int ∷ [])) (with_parameter two_nodes (codes "put.x") (Range (negsuc 0) (pos 1) ∷ [])) (codes "put") ≡ (Plain (Int (negsuc 0)) ∷ int_items (0 ∷ 1 ∷ [])) ∷ []
  pub nodes_taken : refused (node ∷ []) two_nodes Listing ≡ None
  pub heirs_taken : refused with_heir (of_heir one_heir (Number (pos 7) ∷ []) (name (codes "R") ∷ name (codes "Base") ∷ [])) Listing ≡ None
  pub arrays_taken : refused with_arrays (of_arrays (Number (pos 0) ∷ Number (pos 2) ∷ []) (Number (pos 7) ∷ [])) Listing ≡ None
  pub parameters_taken : refused with_heir (with_params (given (codes "put.x") (Truth true ∷ []) ∷ [])) (Testing (codes "put")) ≡ None

-- which rule a document breaks, and at which item
pub record Refusals : Type 0 where
  pub root_unknown : refused (node ∷ []) (plain_document (codes "M") (objects (codes "N") 2 ∷ []) []) Listing ≡ broken (codes "S1") (codes "root")
  pub class_unknown : refused (node ∷ []) (plain_document (codes "N") (objects (codes "M") 2 ∷ []) []) Listing ≡ broken (codes "S1") (codes "objects.M")
  pub name_unknown : refused (node ∷ []) (node_with (name (codes "M") ∷ [])) Listing ≡ broken (codes "S1") (codes "fields.N.next")
  pub qualified_array : refused (node ∷ []) (node_with (name (codes "N.N[]") ∷ [])) Listing ≡ broken (codes "S1") (codes "fields.N.next")
  pub no_array : refused (node ∷ []) (plain_document (codes "N") [] (given (codes "N.*") [] ∷ [])) Listing ≡ broken (codes "S1") (codes "fields.N.*")
  pub no_domain : refused (node ∷ []) (plain_document (codes "N") (objects (codes "N") 1 ∷ []) []) Listing ≡ broken (codes "S2") (codes "fields.N.next")
  pub no_inherited_domain : refused with_heir (plain_document (codes "R") (objects (codes "R") 1 ∷ []) (given (codes "R.b") (name (codes "R") ∷ []) ∷ [])) Listing ≡ broken (codes "S2") (codes "fields.Base.a")
  pub no_parameter_domain : refused with_heir (with_params []) (Testing (codes "put")) ≡ broken (codes "S2") (codes "params.put.x")
  pub no_values : refused (node ∷ []) (node_with []) Listing ≡ broken (codes "S3") (codes "fields.N.next")
  pub empty_range : refused with_heir (of_heir one_heir (Range (pos 2) (pos 1) ∷ []) (name (codes "R") ∷ [])) Listing ≡ broken (codes "S3") (codes "fields.Base.a")
  pub no_objects_named : refused with_heir (of_heir (objects (codes "R") 1 ∷ []) (Number (pos 0) ∷ []) (name (codes "Base") ∷ [])) Listing ≡ broken (codes "S3") (codes "fields.R.b")
  -- predefined classes are no classes of a finitization
  pub predefined_beside : refused_beside (node ∷ []) two_nodes Listing ≡ None
  pub predefined_objects : refused_beside (node ∷ []) (plain_document (codes "N") (objects (codes "N") 1 ∷ objects (codes "Throwable") 1 ∷ []) []) Listing ≡ broken (codes "S1") (codes "objects.Throwable")
  pub predefined_name : refused_beside (node ∷ []) (node_with (name (codes "Throwable") ∷ [])) Listing ≡ broken (codes "S1") (codes "fields.N.next")
  pub predefined_root : refused_beside (node ∷ []) (record two_nodes { root = codes "Throwable" }) Listing ≡ broken (codes "S3") (codes "this")
  pub no_root_objects : refused (node ∷ []) (plain_document (codes "N") [] []) Listing ≡ broken (codes "S3") (codes "this")
  pub unfit_number : refused (node ∷ []) (node_with (Number (pos 0) ∷ [])) Listing ≡ broken (codes "S4") (codes "fields.N.next")
  pub unfit_truth : refused with_heir (of_heir one_heir (Truth true ∷ []) (name (codes "R") ∷ [])) Listing ≡ broken (codes "S4") (codes "fields.Base.a")
  pub unfit_null : refused with_heir (of_heir one_heir (name (codes "null") ∷ []) (name (codes "R") ∷ [])) Listing ≡ broken (codes "S4") (codes "fields.Base.a")
  pub unfit_element : refused with_arrays (of_arrays (Number (pos 1) ∷ []) (name (codes "R") ∷ [])) Listing ≡ broken (codes "S4") (codes "fields.int[].*")
  pub number_twice : refused with_heir (of_heir one_heir (Range (pos 0) (pos 2) ∷ Number (pos 1) ∷ []) (name (codes "R") ∷ [])) Listing ≡ broken (codes "S5") (codes "fields.Base.a")
  pub class_twice : refused (node ∷ []) (node_with (name (codes "N") ∷ name (codes "N") ∷ [])) Listing ≡ broken (codes "S5") (codes "fields.N.next")
  pub length_twice : refused with_arrays (of_arrays (Number (pos 1) ∷ Number (pos 1) ∷ []) (Number (pos 0) ∷ [])) Listing ≡ broken (codes "S5") (codes "arrays.int[][]")
  pub no_predicate : refused (class_named (codes "N") [] ∷ []) (plain_document (codes "N") (objects (codes "N") 1 ∷ []) []) Listing ≡ broken (codes "S7") (codes "root")
  pub no_method : refused (node ∷ []) two_nodes (Testing (codes "put")) ≡ broken (codes "S8") (codes "method")
  pub no_field : refused (node ∷ []) (plain_document (codes "N") (objects (codes "N") 1 ∷ []) (given (codes "N.1x") (Number (pos 0) ∷ []) ∷ given (codes "N.next") (name (codes "N") ∷ []) ∷ [])) Listing ≡ broken (codes "S9") (codes "fields.N.1x")
  pub inherited_field : refused with_heir (plain_document (codes "R") (objects (codes "R") 1 ∷ []) (given (codes "Base.a") (Number (pos 0) ∷ []) ∷ given (codes "R.a") (Number (pos 0) ∷ []) ∷ given (codes "R.b") (name (codes "R") ∷ []) ∷ [])) Listing ≡ broken (codes "S9") (codes "fields.R.a")
  pub no_parameter : refused with_heir (with_params (given (codes "put.y") (Truth true ∷ []) ∷ [])) Listing ≡ broken (codes "S9") (codes "params.put.y")

-- documents that break a rule by a little, or none by a little
pub record CloseRefusals : Type 0 where
  pub least_item : refused (node ∷ []) (plain_document (codes "N") (objects (codes "M") 2 ∷ []) (given (codes "N.next") (name (codes "M") ∷ []) ∷ [])) Listing ≡ broken (codes "S1") (codes "fields.N.next")
  pub bounded_unknown : refused (node ∷ []) (bounding (codes "int") []) Listing ≡ broken (codes "S1") (codes "arrays.int")
  pub set_of_numbers : refused (node ∷ []) (node_with (name (codes "HashSet<int>[]") ∷ [])) Listing ≡ broken (codes "S1") (codes "fields.N.next")
  pub set_of_nodes : refused (node ∷ []) (node_with (name (codes "null") ∷ name (codes "HashSet<N>[]") ∷ [])) Listing ≡ broken (codes "S4") (codes "fields.N.next")
  pub lists_of_arrays : refused (node ∷ []) (node_with (name (codes "null") ∷ name (codes "LinkedList<int[]>[][]") ∷ [])) Listing ≡ broken (codes "S4") (codes "fields.N.next")
  pub no_element_domain : refused (node ∷ []) (bounding (codes "int[]") (Number (pos 1) ∷ [])) Listing ≡ broken (codes "S2") (codes "fields.int[].*")
  pub no_element : refused (node ∷ []) (bounding (codes "int[]") (Number (pos 0) ∷ [])) Listing ≡ None
  pub no_length : refused (node ∷ []) (bounding (codes "int[]") []) Listing ≡ broken (codes "S3") (codes "arrays.int[]")
  -- the ends of a range are compared whole: 2^32 is above 1
  pub far_range : refused with_heir (of_heir one_heir (Range (pos 4294967296) (pos 1) ∷ []) (name (codes "R") ∷ [])) Listing ≡ broken (codes "S3") (codes "fields.Base.a")
  pub empty_range_beside : refused (node ∷ []) (node_with (name (codes "null") ∷ Range (pos 2) (pos 1) ∷ [])) Listing ≡ None
  pub unfit_range : refused (node ∷ []) (node_with (Range (pos 1) (pos 1) ∷ [])) Listing ≡ broken (codes "S4") (codes "fields.N.next")
  pub unfit_class : refused two_classes (node_with (name (codes "null") ∷ name (codes "Other") ∷ [])) Listing ≡ broken (codes "S4") (codes "fields.N.next")
  pub static_predicate : refused (node_and (without_parameters true (codes "repOk") boolean ∷ [])) two_nodes Listing ≡ broken (codes "S7") (codes "root")
  pub number_predicate : refused (node_and (without_parameters false (codes "repOk") int ∷ [])) two_nodes Listing ≡ broken (codes "S7") (codes "root")
  pub predicate_with_parameter : refused (node_and (method_of (codes "repOk") int ∷ [])) two_nodes Listing ≡ broken (codes "S7") (codes "root")
  pub static_tested : refused (node_and (rep_ok_of always ∷ static_method (codes "put") int ∷ [])) (with_parameter two_nodes (codes "put.x") (Number (pos 0) ∷ [])) (Testing (codes "put")) ≡ broken (codes "S8") (codes "method")
  pub static_parameter : refused (node_and (rep_ok_of always ∷ static_method (codes "put") int ∷ [])) (with_parameter two_nodes (codes "put.x") (Number (pos 0) ∷ [])) Listing ≡ None
  pub static_without_domain : refused (node_and (rep_ok_of always ∷ static_method (codes "put") int ∷ [])) two_nodes (Testing (codes "put")) ≡ broken (codes "S8") (codes "method")
  pub static_field : refused (node_and (rep_ok_of always ∷ constant (codes "K") ∷ [])) (plain_document (codes "N") (objects (codes "N") 1 ∷ []) (given (codes "N.K") (Number (pos 0) ∷ []) ∷ given (codes "N.next") (name (codes "N") ∷ []) ∷ [])) Listing ≡ broken (codes "S9") (codes "fields.N.K")

-- the greatest number of slots, and one more
pub record Sizes : Type 0 where
  -- with `this` and one field more
  pub many_slots : refused (plain_root []) (long_arrays []) Listing ≡ None
  pub too_many_slots : refused (plain_root (int_field (codes "a") ∷ [])) (long_arrays (given (codes "R.a") (Number (pos 0) ∷ []) ∷ [])) Listing ≡ broken (codes "S6") (codes "slots")
