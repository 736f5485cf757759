-- To be believed: the meaning of expressions and statements (Java Language Specification, 15 and 14). Each node takes one unit
-- of fuel before all else; nodes that only hold others together take none: a list, and the group of a declaration. The scope
-- gives the names and types at a node their meaning; the locals are the scope's, by their numbers.
use Rattle.std.specs.Prelude.{ℕ, zero, suc, Bool, true, false, List, [], ◌∷◌, length, map, replicate, Option, Some, None, option_and_then, pos, negsuc, nat_lt, if◌then◌else◌}
use Rattle.kr_ast.specs.declared.node.UnaryOperator.{UnaryOperator}
use Rattle.kr_ast.specs.declared.node.UnaryOperator.TheVariants.{Plus}
use Rattle.kr_ast.specs.declared.node.BinaryOperator.{BinaryOperator}
use Rattle.kr_ast.specs.declared.node.BinaryOperator.TheVariants.{And, Or}
use Rattle.kr_ast.specs.Tree as trees
use Rattle.kr_ast.specs.Tree.{Tree}
use Rattle.kr_value.specs.declared.value.Value.{Value}
use Rattle.kr_value.specs.declared.value.Value.TheVariants.{Int, Bool as Truth, Null}
use Rattle.kr_value.specs.declared.object.Class.{Class}
use Rattle.kr_value.specs.declared.object.Class.TheVariants.{Object, Array, Set, List as ListClass}
use Rattle.kr_classes_table.specs.Types.{JavaType, NumberType, ClassType, ArrayType, SetType, ListType, is_void, width_in}
use Rattle.kr_classes_table.specs.Table.{Table, Field, Method, Constructor, items, fields_of, line_of, field_named, method_named}
use Rattle.kr_classes_table.specs.Arrays.{array_number}
use Rattle.kr_classes_table.specs.Constants.{constant_of, known_value as constant_value}
use Rattle.kr_classes_table.specs.Numbers.{Width, Bits32, Bits64, wrap}
use Rattle.kr_classes_table.specs.Operators.{operator_width}
use Rattle.kr_types_meaning.specs.Scopes.{Scope, Locals, Meant, LocalName, FieldName, NoName, written, caught_type, declaring, bind_local as with_local, after, meant, class_before, static_only, method_meant, super_class}
use Rattle.kr_types_meaning.specs.Typing.{judged, operand, type_in, type_of}
use Rattle.kr_mean.specs.declared.flow.Flow.{Flow}
use Rattle.kr_mean.specs.declared.flow.Flow.TheVariants.{Next, Broke, Continued, Left, Gave}
use Rattle.kr_mean.specs.declared.kind.Kind.{Kind}
use Rattle.kr_mean.specs.declared.kind.Kind.TheVariants.{NegativeArraySizeException, ClassCastException, NoReturn, ArrayTooLong}
use Rattle.kr_mean.specs.declared.kind.Stop.TheVariants.{Trapped, OutOfFuel, Stuck}
use Rattle.kr_mean.specs.Program.{Program, default_of, is_of_type, overriding, class_scope, method_scope, constructor_scope, constructor_of, declared_fields}
use Rattle.kr_mean.specs.Steps.{Run, say, give, stop, given, ◌>>=◌, ◌>>◌, tick, get_this, read_local, declare, assign, get_result, get_old, within, scoped, load_field, element, class_or_null, class_of, store, store_new, store_element, make, collect}
use Rattle.kr_mean.specs.Thrown.{class_of_kind, is_caught, object_of, attempted, throw}
use Rattle.kr_mean.specs.declared.operations.BinaryOperation.{BinaryOperation}
use Rattle.kr_mean.specs.declared.operations.StepOperation.{StepOperation}
use Rattle.kr_mean.specs.Operators.{operated, operated_alone, binary_operation, compound_operation, unary_operation, step_operation, step_binary, gives_old}

-- ---- where statements lead

-- goes on after a statement that led to the next one
abbrev pub then_on : Flow → Run Flow → Run Flow
then_on Next m = m
then_on flow m = give flow

-- goes on after a round of a loop
abbrev pub then_round : Flow → Run Flow → Run Flow
then_round Next m = m
then_round Continued m = m
then_round Broke m = give Next
then_round flow m = give flow

-- the end of a body without a value traps where the method gives one
abbrev pub returned : Bool → Flow → Run Value
returned true Next = give Null
returned true Left = give Null
returned false Next = stop (Trapped NoReturn)
returned false (Gave v) = give v
returned void flow = stop Stuck

-- the end of a constructor's body
abbrev pub completed : Flow → Run (Unit {0})
completed Next = give tt
completed Left = give tt
completed flow = stop Stuck

-- the first where a condition holds, and else the second
abbrev pub choose : {A : Type 0} → Value → Run A → Run A → Run A
choose (Truth true) m n = m
choose (Truth false) m n = n
choose v m n = stop Stuck

-- ---- the parts of a node

-- the meaning of expressions and statements below a node, and of a loop of a test and a body
pub record Parts : Type 0 where
  pub value : Scope → Tree → Run Value
  pub exec : Scope → Tree → Run Flow
  pub rounds : Run Value → Run Flow → Run Flow

-- the values of arguments, left to right (15.7.4)
abbrev pub values_of : Parts → Scope → List Tree → Run (List Value)
values_of parts s [] = give []
values_of parts s (e ∷ es) = do
  v ← parts.value s e
  vs ← values_of parts (after s e) es
  give (v ∷ vs)

-- statements in order, each in the scope that those before it leave
abbrev pub all : Parts → Scope → List Tree → Run Flow
all parts s [] = give Next
all parts s (t ∷ ts) = do
  flow ← parts.exec s t
  then_on flow (all parts (after s t) ts)

-- the expressions alone
abbrev pub updates : Parts → Scope → List Tree → Run Flow
updates parts s [] = give Next
updates parts s (e ∷ es) = parts.value s e >> updates parts (after s e) es

-- a condition that is absent holds (14.14.1)
abbrev pub condition : Parts → Scope → Tree → Run Value
condition parts s trees.Nil = give (Truth true)
condition parts s e = parts.value s e

-- at most n rounds of a loop, each with a unit of fuel for its test
abbrev pub rounds : ℕ → Run Value → Run Flow → Run Flow
rounds zero test body = stop OutOfFuel
rounds (suc n) test body = do
  tick
  v ← test
  choose v (body >>= (λ flow. then_round flow (rounds n test body))) (give Next)

-- ---- names

abbrev pub constant : Scope → Option Field → Run Value
constant s f = given (constant_value s.values f)

-- a local; a constant; a field of `this` (6.5.6.1)
abbrev pub read_name : Program → Scope → Meant → Run Value
read_name program s (LocalName k t) = read_local k
read_name program s (FieldName f) = if f.is_static then constant s (Some f) else get_this >>= load_field program f.name
read_name program s NoName = stop Stuck

-- after a class's name a constant, otherwise a field of an object or the length of an array (15.11)
abbrev pub access : Program → Parts → Scope → Tree → List ℕ → Option ℕ → Run Value
access program parts s e n (Some c) = constant s (constant_of s.table (Some c) n)
access program parts s e n None = parts.value s e >>= load_field program n

abbrev pub field_of_type : Table → List ℕ → Option JavaType → Option Field
field_of_type table n (Some (ClassType c)) = option_and_then (λ f. if f.is_static then None else Some f) (field_named table c n)
field_of_type table n type = None

-- the field that an expression's type has
abbrev pub typed_field : Scope → Tree → List ℕ → Option Field
typed_field s e n = field_of_type s.table n (type_of s e)

abbrev pub method_of_type : Table → List ℕ → Option JavaType → Option Method
method_of_type table n (Some (ClassType c)) = method_named table c n
method_of_type table n type = None

-- the method that an expression's type has
abbrev pub typed_method : Scope → Tree → List ℕ → Option Method
typed_method s e n = method_of_type s.table n (type_of s e)

-- ---- calls (15.12)

abbrev pub run_body : Program → Parts → Method → Run Value
run_body program parts m = do
  flow ← all parts (method_scope program m) m.body
  returned (is_void m.result) flow

abbrev pub run_method : Program → Parts → Value → List Value → Option Method → Run Value
run_method program parts receiver arguments None = stop Stuck
run_method program parts receiver arguments (Some m) = within receiver (length m.parameters) arguments (run_body program parts m)

-- a static method is run as it is, of an instance method the one that the object's class has
abbrev pub run_chosen : Program → Parts → Method → Value → List Value → Class → Run Value
run_chosen program parts m receiver arguments class = if m.is_static then run_method program parts Null arguments (Some m) else run_method program parts receiver arguments (overriding program m class)

-- a call without object: of a method of `this`, or a static one
abbrev pub own_call : Program → Parts → List Value → Option Method → Run Value
own_call program parts arguments None = stop Stuck
own_call program parts arguments (Some m) = if m.is_static then run_method program parts Null arguments (Some m) else (do
  o ← get_this
  class ← class_of o
  run_method program parts o arguments (overriding program m class))

-- null traps after the arguments are evaluated; a method that the type doesn't have is a collection's
abbrev pub called : Program → Parts → List ℕ → Value → List Value → Option Method → Run Value
called program parts n o arguments (Some m) = class_of o >>= run_chosen program parts m o arguments
called program parts n o arguments None = collect n o arguments

-- after a class's name a static method, otherwise one of an object
abbrev pub method_call : Program → Parts → Scope → Tree → List ℕ → List Tree → Option ℕ → Run Value
method_call program parts s e n es (Some c) = do
  vs ← values_of parts s es
  run_method program parts Null vs (option_and_then static_only (method_named s.table c n))
method_call program parts s e n es None = do
  o ← parts.value s e
  vs ← values_of parts s es
  called program parts n o vs (typed_method s e n)

-- the superclass's method, whatever the object's class
abbrev pub super_method : Scope → List ℕ → Option Method
super_method s n = option_and_then (λ d. method_named s.table d n) (super_class s)

-- ---- creation (15.9, 12.5)

-- the arguments of the call of the superclass's constructor; an implied call has none, and costs nothing
abbrev pub super_arguments : Parts → Scope → Tree → Run (List Value)
super_arguments parts s (trees.ConstructorCall p es) = tick >> values_of parts s (items es)
super_arguments parts s t = give []

abbrev pub initialised : Program → Parts → Value → Field → Tree → Run (Unit {0})
initialised program parts o f trees.Nil = give tt
initialised program parts o f e = do
  v ← parts.value (class_scope program f.class) e
  store_new program f o v

-- the initial values of fields, in order
abbrev pub all_initialised : Program → Parts → Value → List Field → Run (Unit {0})
all_initialised program parts o [] = give tt
all_initialised program parts o (f ∷ fs) = initialised program parts o f f.initial >> all_initialised program parts o fs

-- by the constructor that the class declares, or by the implied one; `up` is what its superclass does
abbrev pub constructed_by : Program → Parts → ℕ → Option Constructor → Value → List Value → (List Value → Run (Unit {0})) → Run (Unit {0})
constructed_by program parts c None o arguments up = within o 0 arguments (up [] >> all_initialised program parts o (declared_fields program c))
constructed_by program parts c (Some k) o arguments up = within o (length k.parameters) arguments (do
  vs ← super_arguments parts (constructor_scope program c k) k.call
  up vs
  within o 0 [] (all_initialised program parts o (declared_fields program c))
  flow ← all parts (constructor_scope program c k) k.body
  completed flow)

-- the constructors of a class and of its ancestors, the nearest first, each after the superclass's
abbrev pub constructed : Program → Parts → List ℕ → Value → List Value → Run (Unit {0})
constructed program parts [] o [] = give tt
constructed program parts [] o (v ∷ vs) = stop Stuck
constructed program parts (c ∷ cs) o arguments = constructed_by program parts c (constructor_of program c) o arguments (constructed program parts cs o)

abbrev pub create : Program → Parts → JavaType → List Value → Run Value
create program parts (ClassType c) arguments = do
  o ← make (Object c) (map (λ f. default_of f.type) (fields_of program.table c))
  constructed program parts (line_of program.table c) o arguments
  give o
create program parts (SetType t) [] = make Set []
create program parts (ListType t) [] = make ListClass []
create program parts type arguments = stop Stuck

abbrev pub make_array : JavaType → ℕ → Option ℕ → Run Value
make_array t n (Some k) = make (Array k) (replicate n (default_of t))
make_array t n None = stop Stuck

-- elements of a type (15.10.1); a negative length traps, and one above 64
abbrev pub create_array : Program → JavaType → Value → Run Value
create_array program t (Int (pos n)) = if nat_lt 64 n then stop (Trapped ArrayTooLong) else make_array t n (array_number program.arrays (ArrayType t))
create_array program t (Int (negsuc n)) = stop (Trapped NegativeArraySizeException)
create_array program t v = stop Stuck

-- ---- variables that are written (15.26, 15.14, 15.15)

pub data Target : Type 0 where
  LocalTarget : ℕ → Target
  -- of `this`
  OwnField : Field → Target
  -- of an object
  FieldOf : Tree → Field → Target
  -- array, index, type of the elements
  ElementOf : Tree → Tree → JavaType → Target
  NoTarget : Target

abbrev pub name_target : Meant → Target
name_target (LocalName k t) = LocalTarget k
name_target (FieldName f) = if f.is_static then NoTarget else OwnField f
name_target NoName = NoTarget

abbrev pub field_target : Tree → Option Field → Target
field_target e (Some f) = FieldOf e f
field_target e None = NoTarget

abbrev pub element_target : Tree → Tree → Option JavaType → Target
element_target a i (Some (ArrayType t)) = ElementOf a i t
element_target a i type = NoTarget

abbrev pub target_of : Scope → Tree → Target
target_of s (trees.Variable p n) = name_target (meant s n)
target_of s (trees.FieldAccess p e n) = field_target e (typed_field s e n)
target_of s (trees.ArrayAccess p a i) = element_target a i (type_of s a)
target_of s t = NoTarget

-- an assignment: the parts of the target, the value, and then the write
abbrev pub assigned : Program → Parts → Scope → Target → Run Value → Run Value
assigned program parts s (LocalTarget k) m = do
  v ← m
  assign k v
  give v
assigned program parts s (OwnField f) m = do
  v ← m
  o ← get_this
  store program f o v
  give v
assigned program parts s (FieldOf e f) m = do
  o ← parts.value s e
  v ← m
  store program f o v
  give v
assigned program parts s (ElementOf a i t) m = do
  o ← parts.value s a
  j ← parts.value s i
  v ← m
  store_element program t o j v
  give v
assigned program parts s NoTarget m = stop Stuck

-- a variable's value after a change, and the value of the change
pub record Change : Type 0 where
  pub new : Value
  pub given : Value

-- a change: the parts of the target, its value, what is made of it, and then the write
abbrev pub changed : Program → Parts → Scope → Target → (Value → Run Change) → Run Value
changed program parts s (LocalTarget k) f = do
  v ← read_local k
  c ← f v
  assign k c.new
  give c.given
changed program parts s (OwnField g) f = do
  o ← get_this
  v ← load_field program g.name o
  c ← f v
  store program g o c.new
  give c.given
changed program parts s (FieldOf e g) f = do
  o ← parts.value s e
  v ← load_field program g.name o
  c ← f v
  store program g o c.new
  give c.given
changed program parts s (ElementOf a i t) f = do
  o ← parts.value s a
  j ← parts.value s i
  v ← element o j
  c ← f v
  store_element program t o j c.new
  give c.given
changed program parts s NoTarget f = stop Stuck

abbrev pub change_to : Value → Change
change_to v = record { new = v; given = v }

-- the right operand, and the operator on both (15.26.2)
abbrev pub compound : BinaryOperation → Run Value → Value → Run Change
compound o m v = do
  w ← m
  x ← say (operated o v w)
  give (change_to x)

abbrev pub change_from : Bool → Value → Value → Change
change_from true old new = record { new = new; given = old }
change_from false old new = change_to new

-- one more or one less
abbrev pub stepped : StepOperation → Value → Run Change
stepped o v = do
  w ← say (operated (step_binary o) v (Int (pos 1)))
  give (change_from (gives_old o.operator) v w)

-- ---- expressions

-- the width of a type's numbers
abbrev pub type_width : Option JavaType → Width
type_width (Some t) = width_in t
type_width None = Bits32

-- the width of an expression's numbers
abbrev pub width_at : Scope → Tree → Width
width_at s e = type_width (type_of s e)

-- the width of a unary operator's numbers, by the type of its operand (5.6.1)
abbrev pub operand_width : Scope → UnaryOperator → Tree → Width
operand_width s o e = type_width (type_in (judged (operand o s) e).typed)

-- likewise of a binary one's, by those of its operands
abbrev pub width_of : Scope → BinaryOperator → Tree → Tree → Width
width_of s o a b = operator_width o (width_at s a) (width_at s b)

-- two operands: `&&` and `||` look at the second only where the first leaves it open (15.23, 15.24)
abbrev pub binary : Width → BinaryOperator → Run Value → Run Value → Run Value
binary width And m n = do
  v ← m
  choose v n (give (Truth false))
binary width Or m n = do
  v ← m
  choose v (give (Truth true)) n
binary width o m n = do
  v ← m
  w ← n
  say (operated (binary_operation width o) v w)

-- null is of each type (15.16)
abbrev pub cast : Program → JavaType → Value → Option Class → Run Value
cast program t v None = give v
cast program t v (Some class) = if is_of_type program t class then give v else stop (Trapped ClassCastException)

abbrev pub is_primitive : Tree → Bool
is_primitive (trees.PrimitiveType p k) = true
is_primitive t = false

-- a cast to a number's type keeps the low bits, as unary plus of that type does (5.1.3); one to `boolean` changes nothing
abbrev pub primitive_cast : JavaType → Run Value → Run Value
primitive_cast (NumberType w) m = do
  v ← m
  say (operated_alone (unary_operation w Plus) v)
primitive_cast t m = m

abbrev pub instance : Program → JavaType → Option Class → Value
instance program t None = Truth false
instance program t (Some class) = Truth (is_of_type program t class)

-- an expression after its unit
abbrev pub value_of : Program → Parts → Scope → Tree → Run Value
value_of program parts s (trees.Number p n) = give (Int (wrap Bits32 (pos n)))
value_of program parts s (trees.LongNumber p n) = give (Int (wrap Bits64 (pos n)))
value_of program parts s (trees.Truth p b) = give (Truth b)
value_of program parts s (trees.Null p) = give Null
value_of program parts s (trees.This p) = get_this
value_of program parts s (trees.Variable p n) = read_name program s (meant s n)
value_of program parts s (trees.FieldAccess p e n) = access program parts s e n (class_before s e)
value_of program parts s (trees.ArrayAccess p a i) = do
  o ← parts.value s a
  j ← parts.value s i
  element o j
value_of program parts s (trees.Call p n es) = do
  vs ← values_of parts s (items es)
  own_call program parts vs (method_meant s n)
value_of program parts s (trees.MethodCall p e n es) = method_call program parts s e n (items es) (class_before s e)
value_of program parts s (trees.SuperCall p n es) = do
  o ← get_this
  vs ← values_of parts s (items es)
  run_method program parts o vs (super_method s n)
value_of program parts s (trees.ObjectCreation p t es) = do
  vs ← values_of parts s (items es)
  create program parts (written s t) vs
value_of program parts s (trees.ArrayCreation p t e) = do
  n ← parts.value s e
  create_array program (written s t) n
value_of program parts s (trees.Unary p o e) = do
  v ← parts.value s e
  say (operated_alone (unary_operation (operand_width s o e) o) v)
value_of program parts s (trees.Step p o e) = changed program parts s (target_of s e) (stepped (step_operation (width_at s e) o))
value_of program parts s (trees.Binary p o a b) = binary (width_of s o a b) o (parts.value s a) (parts.value s b)
value_of program parts s (trees.InstanceOf p e t) = do
  v ← parts.value s e
  class ← class_or_null v
  give (instance program (written s t) class)
value_of program parts s (trees.Conditional p c a b) = do
  v ← parts.value s c
  choose v (parts.value s a) (parts.value s b)
value_of program parts s (trees.Cast p t e) = if is_primitive t then primitive_cast (written s t) (parts.value s e) else (do
  v ← parts.value s e
  class ← class_or_null v
  cast program (written s t) v class)
value_of program parts s (trees.Assignment p a e) = assigned program parts s (target_of s a) (parts.value s e)
value_of program parts s (trees.CompoundAssignment p o a e) = changed program parts s (target_of s a) (compound (compound_operation (width_at s a) (width_of s o a e) o) (parts.value s e))
value_of program parts s (trees.Result p) = get_result
value_of program parts s (trees.Old p e) = get_old p
value_of program parts s t = stop Stuck

-- ---- statements

-- A local begins at its default, which it has while its initial value is found (6.3, 14.4.2).
abbrev pub initial_value : Parts → Scope → ℕ → Tree → Run (Unit {0})
initial_value parts s k trees.Nil = give tt
initial_value parts s k e = do
  v ← parts.value s e
  assign k v

abbrev pub declared : Parts → Scope → Tree → Run (Unit {0})
declared parts s (trees.Declarator p n e) = do
  tick
  declare (default_of s.declared)
  initial_value parts (with_local n s.declared s) (length s.locals) e
declared parts s t = stop Stuck

-- the declarators of a group, each with a unit of its own
abbrev pub all_declared : Parts → Scope → List Tree → Run Flow
all_declared parts s [] = give Next
all_declared parts s (t ∷ ts) = declared parts s t >> all_declared parts (after s t) ts

-- a `catch` after its unit: the object is its local, in the frame in which the `try` began (14.20.1)
abbrev pub catch_run : Program → Parts → Scope → Tree → Tree → Kind → Run Flow
catch_run program parts s d b k = scoped (do
  tick
  o ← object_of program k
  declare o
  parts.exec (after s d) b)

-- what the first clause does whose class fits, if one does
abbrev pub caught : Program → Parts → Scope → List Tree → Kind → Option (Run Flow)
caught program parts s [] k = None
caught program parts s (trees.Catch p d b ∷ cs) k = if is_caught program (caught_type s d) (class_of_kind program k) then Some (catch_run program parts s d b k) else caught program parts s cs k
caught program parts s (t ∷ cs) k = None

-- a loop's updates come after each round that goes on
abbrev pub then_update : Flow → Run Flow → Run Flow
then_update Next m = m
then_update Continued m = m
then_update flow m = give flow

-- a statement after its unit
abbrev pub flow_of : Program → Parts → Scope → Tree → Run Flow
flow_of program parts s (trees.Empty p) = give Next
flow_of program parts s (trees.Block p ts) = scoped (all parts s (items ts))
flow_of program parts s (trees.ExpressionStatement p e) = parts.value s e >> give Next
flow_of program parts s (trees.IfThen p e a) = do
  v ← parts.value s e
  choose v (parts.exec s a) (give Next)
flow_of program parts s (trees.IfElse p e a b) = do
  v ← parts.value s e
  choose v (parts.exec s a) (parts.exec s b)
flow_of program parts s (trees.While p e a) = parts.rounds (parts.value s e) (parts.exec s a)
flow_of program parts s (trees.Do p a e) = do
  flow ← parts.exec s a
  then_round flow (parts.rounds (parts.value s e) (parts.exec s a))
flow_of program parts s (trees.For p i e u a) = scoped (do
  flow ← all parts s (items i)
  then_on flow (parts.rounds (condition parts (after s i) e) (do
    leads ← parts.exec (after s i) a
    then_update leads (updates parts (after s i) (items u)))))
flow_of program parts s (trees.Break p) = give Broke
flow_of program parts s (trees.Continue p) = give Continued
flow_of program parts s (trees.Return p trees.Nil) = give Left
flow_of program parts s (trees.Return p e) = do
  v ← parts.value s e
  give (Gave v)
flow_of program parts s (trees.Throw p e) = do
  v ← parts.value s e
  throw program v
flow_of program parts s (trees.Try p b cs) = attempted (parts.exec s b) (caught program parts s (items cs))
flow_of program parts s t = stop Stuck

-- ---- whole trees

-- the scope at a group's declarators
abbrev pub declaring_locals : Scope → Tree → Scope
declaring_locals s t = declaring Locals t s

-- a statement, with its unit
abbrev pub statement : Program → Parts → Scope → Tree → Run Flow
statement program parts s (trees.Local p t ds) = all_declared parts (declaring_locals s t) (items ds)
statement program parts s t = tick >> flow_of program parts s t

-- the meaning below a node where no fuel is left
abbrev pub spent : Parts
spent = record { value = λ s e. stop OutOfFuel; exec = λ s t. stop OutOfFuel; rounds = λ test body. stop OutOfFuel }

-- expressions and statements, nested at most n deep: each level takes a unit, so a bound of the fuel cuts nothing off
unfoldable mutual
  pub eval : Program → ℕ → Scope → Tree → Run Value
  eval program zero s e = stop OutOfFuel
  eval program (suc n) s e = tick >> value_of program (record { value = eval program n; exec = exec program n; rounds = rounds n }) s e

  pub exec : Program → ℕ → Scope → Tree → Run Flow
  exec program zero s t = statement program spent s t
  exec program (suc n) s t = statement program (record { value = eval program n; exec = exec program n; rounds = rounds n }) s t

abbrev pub parts_within : Program → ℕ → Parts
parts_within program n = record { value = eval program n; exec = exec program n; rounds = rounds n }

-- the meaning of an expression
unfoldable pub value : Program → Scope → Tree → Run Value
value program s e state = eval program state.fuel s e state

-- the meaning of a statement
unfoldable pub execute : Program → Scope → Tree → Run Flow
execute program s t state = exec program state.fuel s t state

-- the meaning of a loop
unfoldable pub loop : Run Value → Run Flow → Run Flow
loop test body state = rounds state.fuel test body state

-- parts by their meanings, without a bound
abbrev pub unbounded : Program → Parts
unbounded program = record { value = value program; exec = execute program; rounds = loop }

-- the meaning of a method's body, with the arguments
unfoldable pub body_of : Program → Value → List Value → Method → Run Value
body_of program receiver arguments m state = run_method program (parts_within program state.fuel) receiver arguments (Some m) state
