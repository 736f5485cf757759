-- To be believed: a structure as Java code: a static method that creates its objects, sets each field and element that is
-- reachable, and returns the root.
use Rattle.std.specs.Prelude.{ℕ, ◌==◌, Bool, true, false, List, [], ◌∷◌, ◌++◌, map, flat_map, codes, decimal, Option, Some, None, if◌then◌else◌}
use Rattle.std.specs.Fmt.{signed_decimal}
use Rattle.std.specs.List.{position_or_len}
use Rattle.std.proofs.Common.{get_or}
use Rattle.kr_base.specs.Cuts.{cut_text}
use Rattle.kr_base.specs.Places.{nowhere}
use Rattle.kr_ast.specs.Tree.{Nil}
use Rattle.kr_classes_table.specs.Numbers.{Width, Bits32, Bits64}
use Rattle.kr_classes_table.specs.Types.{JavaType, NumberType, BooleanType, VoidType, ClassType}
use Rattle.kr_classes_table.specs.Table.{Table, Heading, Field, fields_of}
use Rattle.kr_mean.specs.Heaps.{distinct}
use Rattle.kr_mean.specs.Places.{SlotPlace, This, Parameter, At}
use Rattle.kr_mean.specs.Problem.{Problem, all_objects, domain_at, slot_at}
use Rattle.kr_mean.specs.Program.{Program}
use Rattle.kr_mean.specs.Runs.{is_same_number, root_class}
use Rattle.kr_mean.specs.declared.row.Row.{Row}
use Rattle.kr_report.specs.Texts.{field_names, no_domain_object}
use Rattle.kr_value.specs.declared.object.Class.{Class}
use Rattle.kr_value.specs.declared.object.Class.TheVariants.{Object, Array}
use Rattle.kr_value.specs.declared.object.Spot.{Spot}
use Rattle.kr_value.specs.declared.object.Spot.TheVariants.{Field as FieldSpot, Length, Element}
use Rattle.kr_value.specs.declared.value.Value.{Value}
use Rattle.kr_value.specs.declared.value.Value.TheVariants.{Int, Bool as Truth, Null, Ref as Reference}
use Rattle.kr_emit_meaning.specs.Buildable.{array_elements}

-- ---- types

abbrev pub no_heading : Heading
no_heading = record { name = []; place = nowhere; outer = None; extended = Nil; members = [] }

abbrev pub heading_at : List Heading → ℕ → Heading
heading_at headings c = get_or headings c no_heading

abbrev pub outer_text : List Heading → Option ℕ → List ℕ
outer_text headings None = []
outer_text headings (Some o) = (heading_at headings o).name ++ codes "."

-- `C`, or `Outer.C` of a nested class
abbrev pub class_text : List Heading → ℕ → List ℕ
class_text headings c = outer_text headings (heading_at headings c).outer ++ (heading_at headings c).name

abbrev pub width_text : Width → List ℕ
width_text Bits32 = codes "int"
width_text Bits64 = codes "long"

-- the type of an array's elements: of no others does a builder make arrays
abbrev pub element_text : List Heading → JavaType → List ℕ
element_text headings (NumberType w) = width_text w
element_text headings BooleanType = codes "boolean"
element_text headings (ClassType c) = class_text headings c
element_text headings _ = []

-- ---- objects and values

abbrev pub referred : Value → List ℕ
referred (Reference o) = o ∷ []
referred (Int n) = []
referred (Truth b) = []
referred Null = []

-- the objects of a structure by their numbers in the heap, in the order in which it names them
abbrev pub objects_in : List (ℕ × Value) → List ℕ
objects_in structure = distinct is_same_number (flat_map (λ (p : ℕ × Value). referred p.1) structure)

-- `o0`, `o1`, ..: the local of an object
abbrev pub local_text : List ℕ → ℕ → List ℕ
local_text objects o = codes "o" ++ decimal (position_or_len (λ m. m == o) objects)

-- a number of a `long` ends in `L`
abbrev pub letter_text : Bool → List ℕ
letter_text true = codes "L"
letter_text false = []

abbrev pub value_text : List ℕ → Bool → Value → List ℕ
value_text objects is_long (Int n) = signed_decimal n ++ letter_text is_long
value_text objects is_long (Truth true) = codes "true"
value_text objects is_long (Truth false) = codes "false"
value_text objects is_long Null = codes "null"
value_text objects is_long (Reference o) = local_text objects o

-- ---- statements

-- the class of an object
abbrev pub class_of_object : Problem → ℕ → Class
class_of_object problem o = (domain_at problem (get_or (all_objects problem) o no_domain_object).domain).class

-- the value at an array's length
abbrev pub length_at : ℕ → Value → SlotPlace → List ℕ
length_at o (Int n) (At p Length) = if p == o then signed_decimal n else []
length_at o v place = []

-- an array's length in a structure
abbrev pub length_text : Problem → List (ℕ × Value) → ℕ → List ℕ
length_text problem structure o = flat_map (λ (p : ℕ × Value). length_at o p.1 (slot_at problem p.0).place) structure

-- `T name = new C();`, where T and C are one but for the brackets
abbrev pub declared_text : List ℕ → List ℕ → List ℕ → List ℕ → List ℕ
declared_text type brackets name created = codes "    " ++ type ++ brackets ++ codes " " ++ name ++ codes " = new " ++ type ++ created ++ codes ";\n"

-- the creation of an object of a class, or of an array with its length
abbrev pub created_text : Program → List ℕ → List ℕ → Class → List ℕ
created_text program name long (Object c) = declared_text (class_text program.table.headings c) [] name (codes "()")
created_text program name long (Array k) = declared_text (element_text program.table.headings (array_elements program k)) (codes "[]") name (codes "[" ++ long ++ codes "]")
created_text program name long _ = []

abbrev pub creation_text : Problem → List (ℕ × Value) → List ℕ → ℕ → List ℕ
creation_text problem structure objects o = created_text problem.program (local_text objects o) (length_text problem structure o) (class_of_object problem o)

abbrev pub is_long : JavaType → Bool
is_long (NumberType Bits64) = true
is_long _ = false

-- the types of the fields of a class's objects
abbrev pub field_types : Table → Class → List JavaType
field_types table (Object c) = map (λ (f : Field). f.type) (fields_of table c)
field_types table class = []

-- whether the values at a spot are of type `long`
abbrev pub is_long_spot : Program → Class → Spot → Bool
is_long_spot program class (FieldSpot f) = is_long (get_or (field_types program.table class) f VoidType)
is_long_spot program (Array k) (Element i) = is_long (array_elements program k)
is_long_spot program class spot = false

-- `.f` of a field, `[i]` of an element
abbrev pub spot_text : Table → Class → Spot → List ℕ
spot_text table class (FieldSpot f) = codes "." ++ get_or (field_names table class) f []
spot_text table class (Element i) = codes "[" ++ decimal i ++ codes "]"
spot_text table class Length = []

abbrev pub assigned_text : List ℕ → List ℕ → List ℕ → List ℕ
assigned_text name spot value = codes "    " ++ name ++ spot ++ codes " = " ++ value ++ codes ";\n"

-- what is set at a spot of an object; an array's length isn't
abbrev pub set_text : Program → List ℕ → ℕ → Class → Value → Spot → List ℕ
set_text program objects o class v Length = []
set_text program objects o class v (FieldSpot f) = assigned_text (local_text objects o) (spot_text program.table class (FieldSpot f)) (value_text objects (is_long_spot program class (FieldSpot f)) v)
set_text program objects o class v (Element i) = assigned_text (local_text objects o) (spot_text program.table class (Element i)) (value_text objects (is_long_spot program class (Element i)) v)

abbrev pub assignment_text : Problem → List ℕ → Value → SlotPlace → List ℕ
assignment_text problem objects v (At o spot) = set_text problem.program objects o (class_of_object problem o) v spot
assignment_text problem objects v This = []
assignment_text problem objects v (Parameter i) = []

-- ---- builders

-- what comes before a builder's number: its row's key, and its type
abbrev pub front_text : Problem → Row → List ℕ
front_text problem row = codes "  // " ++ cut_text row.key ++ codes "\n  static " ++ class_text problem.program.table.headings (root_class problem) ++ codes " b"

abbrev pub body_text : Problem → List (ℕ × Value) → List ℕ → List ℕ
body_text problem structure objects =
    flat_map (creation_text problem structure objects) objects
    ++ flat_map (λ (p : ℕ × Value). assignment_text problem objects p.1 (slot_at problem p.0).place) structure

-- what comes after it
abbrev pub rest_text : Problem → Row → List ℕ
rest_text problem row = codes "() {\n" ++ body_text problem row.structure (objects_in row.structure) ++ codes "    return o0;\n  }\n"

-- the builder of a row by its number
unfoldable pub builder_text : Problem → Row → ℕ → List ℕ
builder_text problem row n = front_text problem row ++ decimal n ++ rest_text problem row
