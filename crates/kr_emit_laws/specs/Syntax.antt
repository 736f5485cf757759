-- Between crates: the builders of rows as syntax: their lines, without spelling and places.
use Rattle.std.specs.Prelude.{ℕ, ◌==◌, Bool, List, [], ◌∷◌, ◌++◌, ℤ, pos, map, flat_map, Option, Some, None, if◌then◌else◌}
use Rattle.std.specs.List.{position_or_len}
use Rattle.std.proofs.Common.{get_or}
use Rattle.kr_ast.specs.declared.node.Primitive.{Primitive}
use Rattle.kr_ast.specs.declared.node.Primitive.TheVariants as primitives
use Rattle.kr_base.specs.Cuts.{cut_text}
use Rattle.kr_classes_table.specs.Numbers.{Bits32, Bits64}
use Rattle.kr_classes_table.specs.Table.{Heading}
use Rattle.kr_classes_table.specs.Types.{JavaType, NumberType, BooleanType, ClassType}
use Rattle.kr_mean.specs.Places.{SlotPlace, This, Parameter, At}
use Rattle.kr_mean.specs.Problem.{Problem, slot_at}
use Rattle.kr_mean.specs.Program.{Program}
use Rattle.kr_mean.specs.Runs.{root_class}
use Rattle.kr_mean.specs.declared.row.Row.{Row}
use Rattle.kr_report.specs.Texts.{field_names}
use Rattle.kr_value.specs.declared.object.Class.{Class}
use Rattle.kr_value.specs.declared.object.Class.TheVariants.{Object, Array}
use Rattle.kr_value.specs.declared.object.Spot.{Spot}
use Rattle.kr_value.specs.declared.object.Spot.TheVariants.{Field as FieldSpot, Length, Element}
use Rattle.kr_value.specs.declared.value.Value.{Value}
use Rattle.kr_value.specs.declared.value.Value.TheVariants.{Int, Bool as Truth, Null, Ref as Reference}
use Rattle.kr_emit_meaning.specs.Buildable.{array_elements}
use Rattle.kr_emit_meaning.specs.Builders.{class_of_object, heading_at, is_long_spot, objects_in}

-- ---- syntax

pub data TypeName : Type 0 where
  PrimitiveName : Primitive → TypeName
  SimpleName : List ℕ → TypeName
  -- outer class, name
  NestedName : List ℕ → List ℕ → TypeName

-- what a field or an element is set to
pub data Operand : Type 0 where
  -- whether it is a `long`
  Whole : Bool → ℤ → Operand
  Boolean : Bool → Operand
  NullOperand : Operand
  -- a local by its number
  Local : ℕ → Operand

pub data Line : Type 0 where
  -- `T oN = new T();`
  Creates : TypeName → ℕ → Line
  -- `T[] oN = new T[length];`
  CreatesArray : TypeName → ℕ → ℤ → Line
  -- `oN.f = ..;`
  SetsField : ℕ → List ℕ → Operand → Line
  -- `oN[i] = ..;`
  SetsElement : ℕ → ℕ → Operand → Line

-- a method without its number: the key in its comment, its type, and its lines up to the return
pub record Builder : Type 0 where
  pub key : List ℕ
  pub type : TypeName
  pub lines : List Line

-- ---- the builder of a row

abbrev pub named_in : List Heading → Option ℕ → List ℕ → TypeName
named_in headings None name = SimpleName name
named_in headings (Some o) name = NestedName (heading_at headings o).name name

abbrev pub class_name : List Heading → ℕ → TypeName
class_name headings c = named_in headings (heading_at headings c).outer (heading_at headings c).name

abbrev pub element_name : List Heading → JavaType → TypeName
element_name headings (NumberType Bits32) = PrimitiveName primitives.Int
element_name headings (NumberType Bits64) = PrimitiveName primitives.Long
element_name headings BooleanType = PrimitiveName primitives.Boolean
element_name headings (ClassType c) = class_name headings c
element_name headings _ = SimpleName []

abbrev pub local_of : List ℕ → ℕ → ℕ
local_of objects o = position_or_len (λ m. m == o) objects

abbrev pub operand_of : List ℕ → Bool → Value → Operand
operand_of objects is_long (Int n) = Whole is_long n
operand_of objects is_long (Truth b) = Boolean b
operand_of objects is_long Null = NullOperand
operand_of objects is_long (Reference o) = Local (local_of objects o)

-- the value at an array's length
abbrev pub lengths_at : ℕ → Value → SlotPlace → List ℤ
lengths_at o (Int n) (At p Length) = if p == o then n ∷ [] else []
lengths_at o v place = []

-- an array's length in a structure, as often as the structure has it
abbrev pub lengths_of : Problem → List (ℕ × Value) → ℕ → List ℤ
lengths_of problem structure o = flat_map (λ (p : ℕ × Value). lengths_at o p.1 (slot_at problem p.0).place) structure

abbrev pub length_of : Problem → List (ℕ × Value) → ℕ → ℤ
length_of problem structure o = get_or (lengths_of problem structure o) 0 (pos 0)

abbrev pub created_lines : Program → ℕ → ℤ → Class → List Line
created_lines program n length (Object c) = Creates (class_name program.table.headings c) n ∷ []
created_lines program n length (Array k) = CreatesArray (element_name program.table.headings (array_elements program k)) n length ∷ []
created_lines program n length _ = []

abbrev pub creation_lines : Problem → List (ℕ × Value) → List ℕ → ℕ → List Line
creation_lines problem structure objects o = created_lines problem.program (local_of objects o) (length_of problem structure o) (class_of_object problem o)

abbrev pub set_lines : Program → List ℕ → ℕ → Class → Value → Spot → List Line
set_lines program objects o class v Length = []
set_lines program objects o class v (FieldSpot f) = SetsField (local_of objects o) (get_or (field_names program.table class) f []) (operand_of objects (is_long_spot program class (FieldSpot f)) v) ∷ []
set_lines program objects o class v (Element i) = SetsElement (local_of objects o) i (operand_of objects (is_long_spot program class (Element i)) v) ∷ []

abbrev pub assignment_lines : Problem → List ℕ → Value → SlotPlace → List Line
assignment_lines problem objects v (At o spot) = set_lines problem.program objects o (class_of_object problem o) v spot
assignment_lines problem objects v This = []
assignment_lines problem objects v (Parameter i) = []

abbrev pub lines_of : Problem → List (ℕ × Value) → List ℕ → List Line
lines_of problem structure objects =
    flat_map (creation_lines problem structure objects) objects
    ++ flat_map (λ (p : ℕ × Value). assignment_lines problem objects p.1 (slot_at problem p.0).place) structure

abbrev pub builder_of : Problem → Row → Builder
builder_of problem row = record {
  key = cut_text row.key;
  type = class_name problem.program.table.headings (root_class problem);
  lines = lines_of problem row.structure (objects_in row.structure);
}

abbrev pub builders_of : Problem → List Row → List Builder
builders_of problem rows = map (builder_of problem) rows
