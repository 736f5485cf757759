-- Between crates: lines of builders whose types fit.
use Rattle.std.specs.Prelude.{◌≡◌, ◌≤◌, ◌^◌, ℕ, Bool, true, false, List, [], ◌∷◌, length, nat_eq, nat_lt, pos, negsuc, Option, Some, None, if◌then◌else◌}
use Rattle.std.specs.List.{AllByRecursion}
use Rattle.kr_base.specs.Places.{nowhere}
use Rattle.kr_base.specs.declared.place.Place.{Place}
use Rattle.kr_classes_table.specs.Numbers.{Width, Bits32, Bits64, half}
use Rattle.kr_classes_table.specs.Types.{JavaType, NumberType, BooleanType, NullType, ClassType, ArrayType, is_known}
use Rattle.kr_classes_table.specs.Table.{Table, Field, type_named, field_named, constructor_parameters, is_assignable}
use Rattle.kr_types_meaning.specs.Scopes.{Scope}
use Rattle.kr_types_meaning.specs.Rules.{is_code}
use Rattle.kr_types_meaning.specs.Typing.{judged}
use Rattle.kr_emit_laws.specs.BuilderTree.{methods_tree, type_tree}
use Rattle.kr_emit_laws.specs.Syntax.{Builder, Line, Creates, CreatesArray, SetsField, SetsElement, Operand, Whole, Boolean, NullOperand, Local, TypeName}

-- the type that a type's name means
abbrev pub meant_type : Table → TypeName → JavaType
meant_type table t = type_named table.headings (type_tree nowhere t)

-- the type of a local by its number, of the types of all, the newest first
abbrev pub local_type : List JavaType → ℕ → Option JavaType
local_type [] i = None
local_type (a ∷ types) i = if nat_eq (length types) i then Some a else local_type types i

abbrev pub width_of : Bool → Width
width_of true = Bits64
width_of false = Bits32

-- an operand has a type
abbrev pub IsOperand : List JavaType → Operand → JavaType → Type 0
IsOperand types (Whole is_long (pos n)) a = (a ≡ NumberType (width_of is_long)) × (nat_lt n (half (width_of is_long)) ≡ true)
IsOperand types (Whole is_long (negsuc n)) a = a ≡ NumberType (width_of is_long)
IsOperand types (Boolean b) a = a ≡ BooleanType
IsOperand types NullOperand a = a ≡ NullType
IsOperand types (Local i) a = (local_type types i ≡ Some a) × (is_known a ≡ true)

-- an operand goes into what is of a type
pub record GoesInto (table : Table) (types : List JavaType) (v : Operand) (a : JavaType) : Type 0 where
  pub type : JavaType
  pub operand : IsOperand types v type
  pub assignable : is_assignable table type a ≡ true

-- `new C()` of a class whose constructor takes nothing
pub record IsCreated (table : Table) (t : TypeName) : Type 0 where
  pub class : ℕ
  pub named : meant_type table t ≡ ClassType class
  pub plain : constructor_parameters table class ≡ []

-- a local's field, which isn't static
pub record HasField (table : Table) (types : List JavaType) (n : ℕ) (name : List ℕ) (field : Field) : Type 0 where
  pub class : ℕ
  pub local : local_type types n ≡ Some (ClassType class)
  pub found : field_named table class name ≡ Some field
  pub instance : field.is_static ≡ false
  pub known : is_known field.type ≡ true

-- the line declares a local with the next number, or sets what its value goes into
abbrev pub Fits : Table → List JavaType → Line → Type 0
Fits table types (Creates t n) = (n ≡ length types) × IsCreated table t
Fits table types (CreatesArray t n (pos l)) = (n ≡ length types) × (is_known (meant_type table t) ≡ true) × (nat_lt l (half Bits32) ≡ true)
Fits table types (CreatesArray t n (negsuc l)) = ⊥
Fits table types (SetsField n name v) = (field : Field) × HasField table types n name field × GoesInto table types v field.type
Fits table types (SetsElement n i v) = (a : JavaType) × (local_type types n ≡ Some (ArrayType a)) × (is_known a ≡ true) × (nat_lt i (half Bits32) ≡ true) × GoesInto table types v a

-- the types of the locals after a line
abbrev pub types_after : Table → List JavaType → Line → List JavaType
types_after table types (Creates t n) = meant_type table t ∷ types
types_after table types (CreatesArray t n l) = ArrayType (meant_type table t) ∷ types
types_after table types line = types

-- `return o0;`
pub record IsReturned (table : Table) (types : List JavaType) (result : JavaType) : Type 0 where
  pub type : JavaType
  pub local : local_type types 0 ≡ Some type
  pub known : is_known type ≡ true
  pub assignable : is_assignable table type result ≡ true

abbrev pub LinesFit : Table → JavaType → List JavaType → List Line → Type 0
LinesFit table result types [] = IsReturned table types result
LinesFit table result types (line ∷ lines) = Fits table types line × LinesFit table result (types_after table types line) lines

pub record BuilderFits (table : Table) (b : Builder) : Type 0 where
  pub known : is_known (meant_type table b.type) ≡ true
  pub few : length b.lines ≤ 2 ^ 63
  pub lines : LinesFit table (meant_type table b.type) [] b.lines

-- such builders are methods without broken nodes, whatever their places
abbrev pub MethodsLaw : Type 0
MethodsLaw = (place : List ℕ → Place) (front : List ℕ) (n : ℕ) (s : Scope) (builders : List Builder) → s.locals ≡ [] → is_code s.part ≡ true → AllByRecursion (BuilderFits s.table) builders → (judged s (methods_tree place front n builders)).faults ≡ []
