-- To be believed: the class table of the files of a program (Java Language Specification 8).
use Rattle.std.specs.Prelude.{ℕ, zero, suc, ◌+◌, Bool, true, false, ◌||◌, List, [], ◌∷◌, ◌++◌, length, reverse, flat_map, find, nat_eq, bytes_eq, if◌then◌else◌, Option, Some, None, option_and_then, option_to_list, codes}
use Rattle.kr_base.specs.declared.place.Place.{Place}
use Rattle.kr_ast.specs.declared.node.Primitive.TheVariants.{Int, Long, Boolean, Void}
use Rattle.kr_ast.specs.Tree as trees
use Rattle.kr_ast.specs.Tree.{Tree, Cons}
use Rattle.kr_classes_table.specs.Numbers.{Width, Bits32, Bits64}
use Rattle.kr_classes_table.specs.Types.{JavaType, NumberType, int_type, long_type, BooleanType, NullType, VoidType, ClassType, ArrayType, SetType, ListType, InferredType, UnknownType, AppliedType, is_same, is_reference}

-- ---- names of classes

-- the head of a class: the outer class's number, the extended class as written, the members
pub record Heading : Type 0 where
  pub name : List ℕ
  pub place : Place
  pub outer : Option ℕ
  pub extended : Tree
  pub members : List Tree

-- the items of a list
abbrev pub items : Tree → List Tree
items (Cons t ts) = t ∷ items ts
items _ = []

abbrev pub heading_of : Option ℕ → Tree → List Heading
heading_of outer (trees.Class p n e ms) = record { name = n; place = p; outer = outer; extended = e; members = items ms } ∷ []
heading_of outer _ = []

-- a class and the nested ones of its members; the class has the number k
abbrev pub with_nested : ℕ → List Heading → List Heading
with_nested k [] = []
with_nested k (h ∷ hs) = h ∷ flat_map (heading_of (Some k)) h.members

-- the classes of a list in source order, numbered from k on
abbrev pub headings_from : ℕ → List Tree → List Heading
headings_from k [] = []
headings_from k (t ∷ ts) = let own = with_nested k (heading_of None t) in own ++ headings_from (k + length own) ts

-- the classes of files in source order
abbrev pub headings_of : List Tree → List Heading
headings_of files = headings_from 0 (flat_map items files)

-- the number of the class of a name, counted from k
abbrev pub number_from : ℕ → List Heading → List ℕ → Option ℕ
number_from k [] n = None
number_from k (h ∷ hs) n = if bytes_eq h.name n then Some k else number_from (k + 1) hs n

abbrev pub number_of : List Heading → List ℕ → Option ℕ
number_of hs n = number_from 0 hs n

abbrev pub is_number : Option ℕ → Option ℕ → Bool
is_number (Some a) (Some b) = nat_eq a b
is_number a b = false

abbrev pub outer_of : List Heading → ℕ → Option ℕ
outer_of [] k = None
outer_of (h ∷ hs) zero = h.outer
outer_of (h ∷ hs) (suc k) = outer_of hs k

-- the class that a class's name means: `C`, or `Outer.C` where the class Outer has the class C
abbrev pub class_named : List Heading → Tree → Option ℕ
class_named hs (trees.NamedType p n) = number_of hs n
class_named hs (trees.QualifiedType p o n) = option_and_then (λ c. if is_number (outer_of hs c) (number_of hs o) then Some c else None) (number_of hs n)
class_named hs _ = None

-- ---- types as they are written

abbrev pub class_or : Option ℕ → JavaType → JavaType
class_or (Some c) t = ClassType c
class_or None t = t

-- a head with an argument: only the two collections take one
abbrev pub applied : JavaType → JavaType → JavaType
applied (UnknownType [] n) t = if bytes_eq n (codes "HashSet") then SetType t else if bytes_eq n (codes "LinkedList") then ListType t else AppliedType (UnknownType [] n) t
applied h t = AppliedType h t

-- the type that a type's tree means; what is absent is no value's type
abbrev pub type_named : List Heading → Tree → JavaType
type_named hs (trees.PrimitiveType p Int) = int_type
type_named hs (trees.PrimitiveType p Long) = long_type
type_named hs (trees.PrimitiveType p Boolean) = BooleanType
type_named hs (trees.PrimitiveType p Void) = VoidType
type_named hs (trees.NamedType p n) = class_or (class_named hs (trees.NamedType p n)) (UnknownType [] n)
type_named hs (trees.QualifiedType p o n) = class_or (class_named hs (trees.QualifiedType p o n)) (UnknownType o n)
type_named hs (trees.GenericType p h a) = applied (type_named hs h) (type_named hs a)
type_named hs (trees.DiamondType p h) = applied (type_named hs h) InferredType
type_named hs (trees.ArrayType p e) = ArrayType (type_named hs e)
type_named hs _ = VoidType

-- ---- the table

-- a field or constant: the class that declares it, whether it is `static` and `final`, its type and its initial value as
-- a tree, which may be absent
pub record Field : Type 0 where
  pub class : ℕ
  pub name : List ℕ
  pub place : Place
  pub is_static : Bool
  pub is_final : Bool
  pub type : JavaType
  pub initial : Tree

pub record Parameter : Type 0 where
  pub name : List ℕ
  pub place : Place
  pub type : JavaType

pub record Method : Type 0 where
  pub class : ℕ
  pub name : List ℕ
  pub place : Place
  pub is_static : Bool
  pub parameters : List Parameter
  pub result : JavaType
  pub contracts : List Tree
  pub body : List Tree

-- parameters, the call of the superclass's constructor, which may be absent, and statements
pub record Constructor : Type 0 where
  pub place : Place
  pub parameters : List Parameter
  pub call : Tree
  pub body : List Tree

-- a class with what it declares itself, each in source order
pub record Class : Type 0 where
  pub name : List ℕ
  pub place : Place
  pub outer : Option ℕ
  pub extended : Tree
  pub super : Option ℕ
  -- fields and constants
  pub fields : List Field
  pub methods : List Method
  pub constructors : List Constructor

-- the classes by their numbers; the headings say what the names of classes mean
pub record Table : Type 0 where
  pub headings : List Heading
  pub classes : List Class

abbrev pub declared_in : List Heading → ℕ → Bool → Bool → Tree → Tree → List Field
declared_in hs c st fi type (trees.Declarator p n e) = record { class = c; name = n; place = p; is_static = st; is_final = fi; type = type_named hs type; initial = e } ∷ []
declared_in hs c st fi type _ = []

abbrev pub fields_in : List Heading → ℕ → Tree → List Field
fields_in hs c (trees.Field p st fi type ds) = flat_map (declared_in hs c st fi type) (items ds)
fields_in hs c _ = []

abbrev pub parameter_in : List Heading → Tree → List Parameter
parameter_in hs (trees.Parameter p t n) = record { name = n; place = p; type = type_named hs t } ∷ []
parameter_in hs _ = []

abbrev pub parameters_in : List Heading → Tree → List Parameter
parameters_in hs ps = flat_map (parameter_in hs) (items ps)

abbrev pub method_with : List Heading → ℕ → Place → Bool → List ℕ → Tree → Tree → List Method
method_with hs c p st n b (trees.Signature q r ps cs) = record {
  class = c;
  name = n;
  place = p;
  is_static = st;
  parameters = parameters_in hs ps;
  result = type_named hs r;
  contracts = items cs;
  body = items b;
} ∷ []
method_with hs c p st n b _ = []

abbrev pub methods_in : List Heading → ℕ → Tree → List Method
methods_in hs c (trees.Method p st n s b) = method_with hs c p st n b s
methods_in hs c _ = []

abbrev pub constructors_in : List Heading → Tree → List Constructor
constructors_in hs (trees.Constructor p ps call b) = record { place = p; parameters = parameters_in hs ps; call = call; body = items b } ∷ []
constructors_in hs _ = []

abbrev pub class_of : List Heading → ℕ → Heading → Class
class_of hs c h = record {
  name = h.name;
  place = h.place;
  outer = h.outer;
  extended = h.extended;
  super = class_named hs h.extended;
  fields = flat_map (fields_in hs c) h.members;
  methods = flat_map (methods_in hs c) h.members;
  constructors = flat_map (constructors_in hs) h.members;
}

abbrev pub classes_from : List Heading → ℕ → List Heading → List Class
classes_from all c [] = []
classes_from all c (h ∷ hs) = class_of all c h ∷ classes_from all (c + 1) hs

-- the table of the files' classes, in file and source order; those of a program begin with the predefined ones
unfoldable pub table_of : List Tree → Table
table_of files = let hs = headings_of files in record { headings = hs; classes = classes_from hs 0 hs }

-- ---- what follows from it

abbrev pub class_at : List Class → ℕ → Option Class
class_at [] c = None
class_at (d ∷ ds) zero = Some d
class_at (d ∷ ds) (suc c) = class_at ds c

abbrev pub super_of : Table → ℕ → Option ℕ
super_of t c = option_and_then (λ d. d.super) (class_at t.classes c)

-- at most n classes upwards from a class
abbrev pub line_within : ℕ → Table → Option ℕ → List ℕ
line_within zero t c = []
line_within (suc n) t None = []
line_within (suc n) t (Some c) = c ∷ line_within n t (super_of t c)

-- a class's ancestors, the nearest first: there are no more than classes
abbrev pub ancestors : Table → ℕ → List ℕ
ancestors t c = line_within (length t.classes) t (super_of t c)

-- a class and its ancestors
abbrev pub line_of : Table → ℕ → List ℕ
line_of t c = c ∷ ancestors t c

abbrev pub is_among : ℕ → List ℕ → Bool
is_among c [] = false
is_among c (d ∷ ds) = nat_eq c d || is_among c ds

-- the second class is the first one or an ancestor of it
abbrev pub is_below : Table → ℕ → ℕ → Bool
is_below t c d = is_among d (line_of t c)

-- fields and constants that a class declares itself; methods likewise
abbrev pub own_fields : Table → ℕ → List Field
own_fields t c = flat_map (λ d. d.fields) (option_to_list (class_at t.classes c))

abbrev pub own_methods : Table → ℕ → List Method
own_methods t c = flat_map (λ d. d.methods) (option_to_list (class_at t.classes c))

abbrev pub is_instance : Field → List Field
is_instance f = if f.is_static then [] else f ∷ []

-- the instance fields of a class's objects, inherited ones first
abbrev pub fields_of : Table → ℕ → List Field
fields_of t c = flat_map is_instance (flat_map (own_fields t) (reverse (line_of t c)))

-- the field or constant of a name, the nearest on a line of classes
abbrev pub field_on : Table → List ℕ → List ℕ → Option Field
field_on t cs n = find (λ f. bytes_eq f.name n) (flat_map (own_fields t) cs)

abbrev pub field_named : Table → ℕ → List ℕ → Option Field
field_named t c n = field_on t (line_of t c) n

-- the method of a name, the nearest on a line of classes
abbrev pub method_on : Table → List ℕ → List ℕ → Option Method
method_on t cs n = find (λ m. bytes_eq m.name n) (flat_map (own_methods t) cs)

abbrev pub method_named : Table → ℕ → List ℕ → Option Method
method_named t c n = method_on t (line_of t c) n

-- the parameters of a class's constructor: none where it has none
abbrev pub constructor_parameters : Table → ℕ → List Parameter
constructor_parameters t c = flat_map (λ k. k.parameters) (flat_map (λ d. d.constructors) (option_to_list (class_at t.classes c)))

-- ---- subtypes, and numbers that go into wider ones

-- each value of the one type is of the other (Java Language Specification 4.10)
abbrev pub is_subtype : Table → JavaType → JavaType → Bool
is_subtype t NullType u = is_reference u
is_subtype t (ClassType c) (ClassType d) = is_below t c d
is_subtype t (SetType InferredType) (SetType u) = true
is_subtype t (ListType InferredType) (ListType u) = true
is_subtype t s u = is_same s u

-- each number of the one width is of the other, which is another one
abbrev pub widens : Width → Width → Bool
widens Bits32 Bits64 = true
widens v w = false

-- each number of the one type is of the other (5.1.2): an int goes into a long
abbrev pub is_widened : JavaType → JavaType → Bool
is_widened (NumberType v) (NumberType w) = widens v w
is_widened s u = false

abbrev pub is_assignable : Table → JavaType → JavaType → Bool
is_assignable t s u = is_widened s u || is_subtype t s u

abbrev pub are_related : Table → JavaType → JavaType → Bool
are_related t s u = is_assignable t s u || is_assignable t u s
