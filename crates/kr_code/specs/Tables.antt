-- Between crates: what code has at an index, and its tables' entries for an object's class. A missing index is stuck, or none.
use Rattle.std.specs.Prelude.{ℕ, ◌==◌, Bool, false, List, [], map, take, drop, Option, Some, None}
use Rattle.std.specs.Prelude.{slice_get}
use Rattle.std.proofs.Common.{get_or}
use Rattle.std.specs.declared.vec.Vec.{Vec}
use Rattle.std.specs.declared.alloc.Global.{Global}
use Rattle.kr_value.specs.declared.value.Value.{Value}
use Rattle.kr_value.specs.declared.object.Class as values
use Rattle.kr_value.specs.declared.object.Class.TheVariants.{Object, Array}
use Rattle.kr_code.specs.declared.code.Code.{Code}
use Rattle.kr_code.specs.declared.code.Node.{Node}
use Rattle.kr_code.specs.declared.code.Node.TheVariants as nodes
use Rattle.kr_code.specs.declared.code.Initialiser.{Initialiser}
use Rattle.kr_code.specs.declared.code.MethodCode.{MethodCode}
use Rattle.kr_code.specs.declared.code.ClassCode.{ClassCode}
use Rattle.kr_code.specs.declared.expression.Nodes.{Nodes}
use Rattle.kr_code.specs.declared.expression.Expression.{Expression}
use Rattle.kr_code.specs.declared.expression.Expression.TheVariants as expressions
use Rattle.kr_code.specs.declared.statement.Statement.{Statement}
use Rattle.kr_code.specs.declared.statement.Statement.TheVariants as statements
use Rattle.kr_code.specs.declared.statement.Declarator.{Declarator}
use Rattle.kr_code.specs.declared.statement.Catch.{Catch}
use Rattle.kr_mean.specs.declared.kind.Kind.{Kind}
use Rattle.kr_mean.specs.declared.kind.Kind.TheVariants.{NullPointerException, ArithmeticException, ArrayIndexOutOfBoundsException, NegativeArraySizeException, ClassCastException, NoSuchElementException, Thrown, NoReturn, ArrayTooLong}
use Rattle.kr_mean.specs.Thrown.{step_kinds, kind_among}

-- ---- nodes

abbrev pub node_at : Code → ℕ → Node
node_at code i = get_or code.nodes.items i (nodes.Expression expressions.Stuck)

abbrev pub expression_of : Node → Expression
expression_of (nodes.Expression e) = e
expression_of node = expressions.Stuck

abbrev pub statement_of : Node → Statement
statement_of (nodes.Statement s) = s
statement_of node = statements.Stuck

abbrev pub declarator_of : Node → Option Declarator
declarator_of (nodes.Declarator d) = Some d
declarator_of node = None

abbrev pub catch_of : Node → Option Catch
catch_of (nodes.Catch c) = Some c
catch_of node = None

abbrev pub initialiser_of : Node → Option Initialiser
initialiser_of (nodes.Initialiser x) = Some x
initialiser_of node = None

-- the nodes that follow one another
abbrev pub listed : Code → Nodes → List ℕ
listed code ns = take ns.count (drop ns.first code.links.items)

-- values that follow one another
abbrev pub values_in : Code → Nodes → List Value
values_in code ns = take ns.count (drop ns.first code.values.items)

-- ---- methods and classes

abbrev pub method_at : Code → ℕ → Option MethodCode
method_at code m = slice_get code.methods.items m

abbrev pub class_at : Code → ℕ → Option ClassCode
class_at code c = slice_get code.classes.items c

-- what the fields of a class's objects begin with; past the classes' end there are none
abbrev pub defaults_in : Code → Option ClassCode → List Value
defaults_in code None = []
defaults_in code (Some k) = values_in code k.defaults

-- ---- tables

abbrev pub row_items : {A : Type 0} → Vec A Global → List A
row_items row = row.items

-- the items of a table of rows
abbrev pub cell : {A : Type 0} → A → List (Vec A Global) → ℕ → ℕ → A
cell none rows r c = get_or (get_or (map row_items rows) r []) c none

-- where an object of a class has the field of a name
abbrev pub position_in : Code → ℕ → ℕ → Option ℕ
position_in code name c = cell None code.positions.items name c

-- where it has a field that is stored; what is of no class has none
abbrev pub spot_in : Code → ℕ → values.Class → Option ℕ
spot_in code field (Object c) = cell None code.spots.items field c
spot_in code field class = None

-- the method that it runs in place of one
abbrev pub method_in : Code → ℕ → values.Class → Option ℕ
method_in code m (Object c) = cell None code.dispatch.items m c
method_in code m class = None

-- whether a number, if there is one, is this one
abbrev pub is_numbered : ℕ → Option ℕ → Bool
is_numbered t None = false
is_numbered t (Some n) = n == t

-- whether what is of a class is an instance of a type: the arrays of a class are instances of one
abbrev pub is_instance : Code → ℕ → values.Class → Bool
is_instance code t (Object c) = cell false code.instances.items t c
is_instance code t (Array k) = is_numbered t (get_or code.array_types.items k None)
is_instance code t class = false

-- the class of a kind
abbrev pub class_in_kind : Code → Kind → Option ℕ
class_in_kind code NullPointerException = get_or code.trap_classes.items 0 None
class_in_kind code ArithmeticException = get_or code.trap_classes.items 1 None
class_in_kind code ArrayIndexOutOfBoundsException = get_or code.trap_classes.items 2 None
class_in_kind code NegativeArraySizeException = get_or code.trap_classes.items 3 None
class_in_kind code ClassCastException = get_or code.trap_classes.items 4 None
class_in_kind code NoSuchElementException = get_or code.trap_classes.items 5 None
class_in_kind code (Thrown c) = Some c
class_in_kind code NoReturn = None
class_in_kind code ArrayTooLong = None

-- the kind of a class
abbrev pub kind_in : Code → ℕ → Kind
kind_in code c = kind_among (class_in_kind code) c step_kinds

-- whether a class fits a type that is caught
abbrev pub is_caught_by : Code → ℕ → Option ℕ → Bool
is_caught_by code t None = false
is_caught_by code t (Some c) = is_instance code t (Object c)
