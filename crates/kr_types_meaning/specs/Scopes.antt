-- To be believed: the context of a node, and the meaning of names there (Java Language Specification 6).
use Rattle.std.specs.Prelude.{ℕ, Bool, true, false, List, [], ◌∷◌, length, flat_map, bytes_eq, if◌then◌else◌, Option, Some, None, option_and_then, option_to_list, unwrap_or}
use Rattle.kr_ast.specs.Tree as trees
use Rattle.kr_ast.specs.Tree.{Tree}
use Rattle.kr_classes_table.specs.Types.{JavaType, VoidType}
use Rattle.kr_classes_table.specs.Table.{Table, Field, Method, Parameter, type_named, number_of, super_of, method_named, constructor_parameters}
use Rattle.kr_classes_table.specs.Constants.{Known, field_meant, outer_class, or_else}

pub record Local : Type 0 where
  pub name : List ℕ
  pub type : JavaType

-- the role of an expression: a value, a statement, or the operand of a unary minus
pub data Role : Type 0 where
  AsValue : Role
  AsStatement : Role
  UnderMinus : Role

-- whether a node is in code, or in a contract of one kind
pub data Part : Type 0 where
  Code : Part
  Requiring : Part
  Ensuring : Part
  Signalling : Part

-- the kind of item that a declarator declares
pub data Declaring : Type 0 where
  Locals : Declaring
  Fields : Declaring
  -- whether it is `final`
  Constants : Bool → Declaring

pub record Scope : Type 0 where
  pub table : Table
  pub values : List Known
  -- the class whose code it is
  pub class : ℕ
  pub is_static : Bool
  -- the method's result type
  pub result : JavaType
  -- the locals and parameters in scope, the newest first
  pub locals : List Local
  pub is_in_loop : Bool
  pub part : Part
  pub is_in_old : Bool
  pub role : Role
  pub declaring : Declaring
  -- the declared type
  pub declared : JavaType

-- the scope of a class's members
abbrev pub scope_of : Table → List Known → ℕ → Scope
scope_of table values class = record {
  table = table;
  values = values;
  class = class;
  is_static = false;
  result = VoidType;
  locals = [];
  is_in_loop = false;
  part = Code;
  is_in_old = false;
  role = AsValue;
  declaring = Fields;
  declared = VoidType;
}

abbrev pub written : Scope → Tree → JavaType
written s type = type_named s.table.headings type

-- the type that a `catch` or a `signals` names
abbrev pub caught_type : Scope → Tree → JavaType
caught_type s (trees.Parameter p t n) = written s t
caught_type s t = written s t

-- ---- scopes that a node hands to its parts

abbrev pub in_class : List ℕ → Scope → Scope
in_class n s = scope_of s.table s.values (unwrap_or (number_of s.table.headings n) 0)

abbrev pub static_if : Bool → Scope → Scope
static_if b s = record s { is_static = b }

abbrev pub value : Scope → Scope
value s = record s { role = AsValue }

abbrev pub statement : Scope → Scope
statement s = record s { role = AsStatement }

abbrev pub under_minus : Scope → Scope
under_minus s = record s { role = UnderMinus }

abbrev pub in_loop : Scope → Scope
in_loop s = record s { is_in_loop = true }

abbrev pub in_contract : Part → Scope → Scope
in_contract part s = record s { part = part; role = AsValue }

abbrev pub in_old : Scope → Scope
in_old s = record s { is_in_old = true; role = AsValue }

abbrev pub declaring : Declaring → Tree → Scope → Scope
declaring what type s = record s { declaring = what; declared = written s type }

abbrev pub field_kind : Bool → Bool → Declaring
field_kind true is_final = Constants is_final
field_kind false is_final = Fields

abbrev pub bind_local : List ℕ → JavaType → Scope → Scope
bind_local n type s = record s { locals = record { name = n; type = type } ∷ s.locals }

abbrev pub bind_as : Declaring → List ℕ → Scope → Scope
bind_as Locals n s = bind_local n s.declared s
bind_as what n s = s

-- the scope after a node: a local is in scope from its declarator to its block's end, a parameter in the whole method
abbrev pub after : Scope → Tree → Scope
after s (trees.Cons a b) = after (after s a) b
after s (trees.Local p t ds) = after (declaring Locals t s) ds
after s (trees.Declarator p n e) = bind_as s.declaring n s
after s (trees.Parameter p t n) = bind_local n (written s t) s
after s (trees.Signature p r ps cs) = record (after s ps) { result = written s r }
after s _ = s

-- the scope of the condition of a `signals`, by what it declares
abbrev pub in_signals : Tree → Scope → Scope
in_signals d s = in_contract Signalling (after s d)

-- ---- what names mean

-- a local by the number of those that are declared before it, a field or constant, or nothing
pub data Meant : Type 0 where
  LocalName : ℕ → JavaType → Meant
  FieldName : Field → Meant
  NoName : Meant

abbrev pub field_or_none : Option Field → Meant
field_or_none (Some f) = FieldName f
field_or_none None = NoName

abbrev pub meant_by : List Local → Option Field → List ℕ → Meant
meant_by [] f n = field_or_none f
meant_by (l ∷ ls) f n = if bytes_eq l.name n then LocalName (length ls) l.type else meant_by ls f n

abbrev pub meant : Scope → List ℕ → Meant
meant s n = meant_by s.locals (field_meant s.table s.class n) n

abbrev pub class_if_none : Scope → List ℕ → Meant → Option ℕ
class_if_none s n NoName = number_of s.table.headings n
class_if_none s n m = None

-- the class that an expression before a dot means: a name that means nothing else
abbrev pub class_before : Scope → Tree → Option ℕ
class_before s (trees.Variable p n) = class_if_none s n (meant s n)
class_before s _ = None

abbrev pub static_only : Method → Option Method
static_only m = if m.is_static then Some m else None

-- the method that a call without object means: one of the class or an ancestor, else a static one of the outer class
abbrev pub method_meant : Scope → List ℕ → Option Method
method_meant s n = or_else (method_named s.table s.class n) (option_and_then (λ o. option_and_then static_only (method_named s.table o n)) (outer_class s.table s.class))

abbrev pub super_class : Scope → Option ℕ
super_class s = super_of s.table s.class

-- the parameters of the superclass's constructor
abbrev pub super_parameters : Scope → List Parameter
super_parameters s = flat_map (constructor_parameters s.table) (option_to_list (super_class s))
