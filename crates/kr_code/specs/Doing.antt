-- Between crates: what a node does, given what its parts do.
use Rattle.std.specs.Prelude.{◌≡◌, ℕ, true, false, List, [], ◌∷◌, replicate, Option, Some, None, pos, negsuc, nat_lt, if◌then◌else◌}
use Rattle.kr_value.specs.declared.value.Value.{Value}
use Rattle.kr_value.specs.declared.value.Value.TheVariants.{Int, Bool as Truth, Null}
use Rattle.kr_value.specs.declared.object.Class.TheVariants.{Object, Array, Set, List as ListClass}
use Rattle.kr_mean.specs.declared.kind.Kind.TheVariants.{NegativeArraySizeException, ArrayTooLong}
use Rattle.kr_mean.specs.declared.kind.Stop.TheVariants.{Trapped, Stuck}
use Rattle.kr_mean.specs.Steps.{State, Run, say, give, stop, ◌>>=◌, ◌>>◌, tick, get_this, read_local, declare, assign, get_result, get_old, within, scoped, element, class_or_null, class_of, make, collect}
use Rattle.kr_mean.specs.Operators.{operated, operated_alone}
use Rattle.kr_mean.specs.declared.flow.Flow.{Flow}
use Rattle.kr_mean.specs.declared.flow.Flow.TheVariants.{Next, Broke, Continued, Left, Gave}
use Rattle.kr_mean.specs.Meaning.{then_on, then_round, then_update, returned, completed, choose, Change, change_to, stepped, compound}
use Rattle.kr_code.specs.declared.code.Code.{Code}
use Rattle.kr_code.specs.declared.code.MethodCode.{MethodCode}
use Rattle.kr_code.specs.declared.code.ClassCode.{ClassCode}
use Rattle.kr_code.specs.declared.code.Constructor.{Constructor}
use Rattle.kr_code.specs.declared.code.Initialiser.{Initialiser}
use Rattle.kr_code.specs.declared.expression.Nodes.{Nodes}
use Rattle.kr_code.specs.declared.expression.Callee.{Callee}
use Rattle.kr_code.specs.declared.expression.Callee.TheVariants as callees
use Rattle.kr_code.specs.declared.expression.Variable.{Variable}
use Rattle.kr_code.specs.declared.expression.Variable.TheVariants as variables
use Rattle.kr_code.specs.declared.expression.Expression.{Expression}
use Rattle.kr_code.specs.declared.expression.Expression.TheVariants as expressions
use Rattle.kr_code.specs.declared.statement.Statement.{Statement}
use Rattle.kr_code.specs.declared.statement.Statement.TheVariants as statements
use Rattle.kr_code.specs.declared.statement.Declarator.{Declarator}
use Rattle.kr_code.specs.declared.statement.Catch.{Catch}
use Rattle.kr_mean.specs.declared.kind.Kind.{Kind}
use Rattle.kr_mean.specs.Thrown.{attempted}
use Rattle.kr_code.specs.Tables.{node_at, expression_of, statement_of, declarator_of, catch_of, initialiser_of, class_in_kind, is_caught_by, listed, values_in, method_at, class_at, method_in}
use Rattle.kr_code.specs.Collections.{name_of, new_collection}
use Rattle.kr_code.specs.Steps.{load_named, store_field, store_initial, store_item, cast_to, instance_of, throw_object, taken}

-- the meaning of nodes of code, as expressions and as statements, and of a loop
pub record Doing : Type 0 where
  pub value : ℕ → Run Value
  pub exec : ℕ → Run Flow
  pub loop : Run Value → Run Flow → Run Flow

-- ---- lists

abbrev pub values_at : Doing → List ℕ → Run (List Value)
values_at d [] = give []
values_at d (i ∷ is) = do
  v ← d.value i
  vs ← values_at d is
  give (v ∷ vs)

abbrev pub all_at : Doing → List ℕ → Run Flow
all_at d [] = give Next
all_at d (i ∷ is) = do
  flow ← d.exec i
  then_on flow (all_at d is)

abbrev pub updates_at : Doing → List ℕ → Run Flow
updates_at d [] = give Next
updates_at d (i ∷ is) = d.value i >> updates_at d is

-- ---- calls

abbrev pub run_method : Code → Doing → Value → List Value → Option MethodCode → Run Value
run_method code d receiver arguments None = stop Stuck
run_method code d receiver arguments (Some m) = within receiver m.parameters.count arguments (do
  flow ← all_at d (listed code m.body)
  returned m.is_void flow)

abbrev pub run_numbered : Code → Doing → Value → List Value → Option ℕ → Run Value
run_numbered code d receiver arguments None = stop Stuck
run_numbered code d receiver arguments (Some m) = run_method code d receiver arguments (method_at code m)

-- on an object, the method that its class has
abbrev pub run_on : Code → Doing → ℕ → Value → List Value → Run Value
run_on code d m o arguments = do
  class ← class_of o
  run_numbered code d o arguments (method_in code m class)

-- ---- creation

abbrev pub super_values : Code → Doing → Option Nodes → Run (List Value)
super_values code d None = give []
super_values code d (Some ns) = tick >> values_at d (listed code ns)

abbrev pub initialised_by : Code → Doing → Value → Option Initialiser → Run (Unit {0})
initialised_by code d o None = stop Stuck
initialised_by code d o (Some x) = do
  v ← d.value x.value
  store_initial code x.field o v

abbrev pub initialised : Code → Doing → Value → List ℕ → Run (Unit {0})
initialised code d o [] = give tt
initialised code d o (i ∷ is) = initialised_by code d o (initialiser_of (node_at code i)) >> initialised code d o is

abbrev pub constructed_by : Code → Doing → ClassCode → Option Constructor → Value → List Value → (List Value → Run (Unit {0})) → Run (Unit {0})
constructed_by code d c None o arguments up = within o 0 arguments (up [] >> initialised code d o (listed code c.initialisers))
constructed_by code d c (Some k) o arguments up = within o k.parameters.count arguments (do
  vs ← super_values code d k.call
  up vs
  within o 0 [] (initialised code d o (listed code c.initialisers))
  flow ← all_at d (listed code k.body)
  completed flow)

abbrev pub constructed_in : Code → Doing → Option ClassCode → Value → List Value → (List Value → Run (Unit {0})) → Run (Unit {0})
constructed_in code d None o arguments up = stop Stuck
constructed_in code d (Some c) o arguments up = constructed_by code d c c.constructor o arguments up

-- the constructors of classes, the nearest first, each after the next one's
abbrev pub constructed : Code → Doing → List ℕ → Value → List Value → Run (Unit {0})
constructed code d [] o [] = give tt
constructed code d [] o (v ∷ vs) = stop Stuck
constructed code d (c ∷ cs) o arguments = constructed_in code d (class_at code c) o arguments (constructed code d cs o)

abbrev pub create : Code → Doing → ℕ → List Value → Option ClassCode → Run Value
create code d c arguments None = stop Stuck
create code d c arguments (Some k) = do
  o ← make (Object c) (values_in code k.defaults)
  constructed code d (listed code k.line) o arguments
  give o

abbrev pub call : Code → Doing → Callee → List ℕ → Run Value
call code d callees.Unknown is = values_at d is >> stop Stuck
call code d (callees.Static m) is = do
  vs ← values_at d is
  run_method code d Null vs (method_at code m)
call code d (callees.Own m) is = do
  vs ← values_at d is
  o ← get_this
  run_on code d m o vs
call code d (callees.Super m) is = do
  o ← get_this
  vs ← values_at d is
  run_numbered code d o vs m
call code d (callees.New c) is = do
  vs ← values_at d is
  create code d c vs (class_at code c)
call code d callees.NewSet is = values_at d is >>= new_collection Set
call code d callees.NewList is = values_at d is >>= new_collection ListClass

abbrev pub new_array : ℕ → Option ℕ → Value → Run Value
new_array n (Some k) default = make (Array k) (replicate n default)
new_array n None default = stop Stuck

abbrev pub array_of : Option ℕ → Value → Value → Run Value
array_of k default (Int (pos n)) = if nat_lt 64 n then stop (Trapped ArrayTooLong) else new_array n k default
array_of k default (Int (negsuc n)) = stop (Trapped NegativeArraySizeException)
array_of k default v = stop Stuck

-- ---- variables

abbrev pub assigned : Code → Doing → Variable → Run Value → Run Value
assigned code d variables.Unknown m = stop Stuck
assigned code d (variables.Local k) m = do
  v ← m
  assign k v
  give v
assigned code d (variables.Own name field) m = do
  v ← m
  o ← get_this
  store_field code field o v
  give v
assigned code d (variables.Of e name field) m = do
  o ← d.value e
  v ← m
  store_field code field o v
  give v
assigned code d (variables.Element a i t) m = do
  o ← d.value a
  j ← d.value i
  v ← m
  store_item code t o j v
  give v

abbrev pub changed : Code → Doing → Variable → (Value → Run Change) → Run Value
changed code d variables.Unknown f = stop Stuck
changed code d (variables.Local k) f = do
  v ← read_local k
  c ← f v
  assign k c.new
  give c.given
changed code d (variables.Own name field) f = do
  o ← get_this
  v ← load_named code name o
  c ← f v
  store_field code field o c.new
  give c.given
changed code d (variables.Of e name field) f = do
  o ← d.value e
  v ← load_named code name o
  c ← f v
  store_field code field o c.new
  give c.given
changed code d (variables.Element a i t) f = do
  o ← d.value a
  j ← d.value i
  v ← element o j
  c ← f v
  store_item code t o j c.new
  give c.given

-- ---- expressions, after their unit

abbrev pub value_done : Code → Doing → Expression → Run Value
value_done code d expressions.Stuck = stop Stuck
value_done code d (expressions.Literal v) = give v
value_done code d expressions.This = get_this
value_done code d (expressions.Local k) = read_local k
value_done code d (expressions.OwnField name) = get_this >>= load_named code name
value_done code d (expressions.FieldOf e name) = d.value e >>= load_named code name
value_done code d (expressions.Element a i) = do
  o ← d.value a
  j ← d.value i
  element o j
value_done code d (expressions.Call callee arguments) = call code d callee (listed code arguments)
value_done code d (expressions.CallOn e m arguments) = do
  o ← d.value e
  vs ← values_at d (listed code arguments)
  run_on code d m o vs
value_done code d (expressions.StaticCallOn e m arguments) = do
  o ← d.value e
  vs ← values_at d (listed code arguments)
  class_of o >> run_method code d Null vs (method_at code m)
value_done code d (expressions.CallCollection e c arguments) = do
  o ← d.value e
  vs ← values_at d (listed code arguments)
  collect (name_of c) o vs
value_done code d (expressions.NewArray k default e) = d.value e >>= array_of k default
value_done code d (expressions.Unary o e) = do
  v ← d.value e
  say (operated_alone o v)
value_done code d (expressions.And a b) = do
  v ← d.value a
  choose v (d.value b) (give (Truth false))
value_done code d (expressions.Or a b) = do
  v ← d.value a
  choose v (give (Truth true)) (d.value b)
value_done code d (expressions.Binary o a b) = do
  v ← d.value a
  w ← d.value b
  say (operated o v w)
value_done code d (expressions.InstanceOf e t) = do
  v ← d.value e
  class ← class_or_null v
  give (instance_of code t class)
value_done code d (expressions.Conditional c a b) = do
  v ← d.value c
  choose v (d.value a) (d.value b)
value_done code d (expressions.Cast t e) = do
  v ← d.value e
  class ← class_or_null v
  cast_to code t v class
value_done code d (expressions.Convert t e) = d.value e
value_done code d (expressions.Assign x e) = assigned code d x (d.value e)
value_done code d (expressions.Compound o x e) = changed code d x (compound o (d.value e))
value_done code d (expressions.Step o x) = changed code d x (stepped o)
value_done code d expressions.Result = get_result
value_done code d (expressions.Old p) = get_old p

-- ---- statements

abbrev pub initial_value : Doing → ℕ → Option ℕ → Run (Unit {0})
initial_value d k None = give tt
initial_value d k (Some e) = do
  v ← d.value e
  assign k v

abbrev pub declared : Doing → Option Declarator → Run (Unit {0})
declared d None = stop Stuck
declared d (Some x) = do
  tick
  declare x.default
  initial_value d x.local x.initial

abbrev pub all_declared : Code → Doing → List ℕ → Run Flow
all_declared code d [] = give Next
all_declared code d (i ∷ is) = declared d (declarator_of (node_at code i)) >> all_declared code d is

-- a condition that is absent holds
abbrev pub condition : Doing → Option ℕ → Run Value
condition d None = give (Truth true)
condition d (Some e) = d.value e

-- a round of a `for`: its body, and then the updates
abbrev pub for_round : Doing → ℕ → List ℕ → Run Flow
for_round d body updates = do
  flow ← d.exec body
  then_update flow (updates_at d updates)

-- a `catch` after its unit
abbrev pub catch_at : Code → Doing → ℕ → Kind → Run Flow
catch_at code d body k = scoped (do
  tick
  o ← taken code k
  declare o
  d.exec body)

abbrev pub caught_or : Code → Doing → Option Catch → Option (Run Flow) → Kind → Option (Run Flow)
caught_or code d None rest k = None
caught_or code d (Some c) rest k = if is_caught_by code c.caught (class_in_kind code k) then Some (catch_at code d c.body k) else rest

-- what the first clause does that fits
abbrev pub caught_at : Code → Doing → List ℕ → Kind → Option (Run Flow)
caught_at code d [] k = None
caught_at code d (i ∷ is) k = caught_or code d (catch_of (node_at code i)) (caught_at code d is k) k

-- a statement after its unit
abbrev pub flow_of : Code → Doing → Statement → Run Flow
flow_of code d statements.Stuck = stop Stuck
flow_of code d statements.Empty = give Next
flow_of code d (statements.Block ns) = scoped (all_at d (listed code ns))
flow_of code d (statements.Evaluate e) = d.value e >> give Next
flow_of code d (statements.IfThen e a) = do
  v ← d.value e
  choose v (d.exec a) (give Next)
flow_of code d (statements.IfElse e a b) = do
  v ← d.value e
  choose v (d.exec a) (d.exec b)
flow_of code d (statements.While e a) = d.loop (d.value e) (d.exec a)
flow_of code d (statements.Do a e) = do
  flow ← d.exec a
  then_round flow (d.loop (d.value e) (d.exec a))
flow_of code d (statements.For ns e us a) = scoped (do
  flow ← all_at d (listed code ns)
  then_on flow (d.loop (condition d e) (for_round d a (listed code us))))
flow_of code d statements.Break = give Broke
flow_of code d statements.Continue = give Continued
flow_of code d statements.Leave = give Left
flow_of code d (statements.Return e) = do
  v ← d.value e
  give (Gave v)
flow_of code d (statements.Throw e) = do
  v ← d.value e
  throw_object code v
flow_of code d (statements.Try b cs) = attempted (d.exec b) (caught_at code d (listed code cs))
flow_of code d (statements.Declare ns) = stop Stuck

-- a statement with its unit; a declaration's declarators have units of their own
abbrev pub statement_done : Code → Doing → Statement → Run Flow
statement_done code d (statements.Declare ns) = all_declared code d (listed code ns)
statement_done code d s = tick >> flow_of code d s

-- ---- the whole

-- a round of a loop: a unit, the test, and where it holds the body and what follows
abbrev pub rounds_of : Doing → Run Value → Run Flow → Run Flow
rounds_of d test body = do
  tick
  v ← test
  choose v (body >>= (λ flow. then_round flow (d.loop test body))) (give Next)

-- the meaning of nodes follows from that of their parts
pub record IsMeaning (code : Code) (d : Doing) : Type 0 where
  pub value_is : (i : ℕ) (s : State) → d.value i s ≡ (tick >> value_done code d (expression_of (node_at code i))) s
  pub exec_is : (i : ℕ) (s : State) → d.exec i s ≡ statement_done code d (statement_of (node_at code i)) s
  pub while_is : (e a : ℕ) (s : State) → d.loop (d.value e) (d.exec a) s ≡ rounds_of d (d.value e) (d.exec a) s
  pub for_is : (e : Option ℕ) (a : ℕ) (us : List ℕ) (s : State) → d.loop (condition d e) (for_round d a us) s ≡ rounds_of d (condition d e) (for_round d a us) s
