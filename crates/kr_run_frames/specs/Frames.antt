-- Between crates: the outcome of the whole run, from the outcome of a part of it and the frames that wait.
use Rattle.std.specs.Prelude.{ℕ, true, false, List, [], ◌∷◌, Result, Ok, Err, map, take, reverse}
use Rattle.kr_value.specs.declared.value.Value.{Value}
use Rattle.kr_value.specs.declared.value.Value.TheVariants.{Bool as Truth, Null}
use Rattle.kr_mean.specs.declared.kind.Stop.{Stop}
use Rattle.kr_mean.specs.declared.kind.Stop.TheVariants.{Stuck}
use Rattle.kr_mean.specs.declared.flow.Flow.{Flow}
use Rattle.kr_mean.specs.declared.flow.Flow.TheVariants as flows
use Rattle.kr_mean.specs.Places.{SlotPlace}
use Rattle.kr_mean.specs.Steps.{State, Outcome, Run, after_reads, go_on, say, give, stop, ◌>>=◌, ◌>>◌, get_this, assign, within, element, class_or_null, class_of, collect}
use Rattle.kr_mean.specs.Operators.{operated, operated_alone, gives_old}
use Rattle.kr_mean.specs.Thrown.{handled, caught_by}
use Rattle.kr_mean.specs.Meaning as meaning
use Rattle.kr_mean.specs.Meaning.{then_on, then_round, then_update, returned, completed, choose, stepped, change_from, compound}
use Rattle.kr_code.specs.declared.code.Code.{Code}
use Rattle.kr_code.specs.declared.expression.Nodes.{Nodes}
use Rattle.kr_code.specs.Tables.{listed, method_at, class_at}
use Rattle.kr_code.specs.Collections.{name_of, new_collection}
use Rattle.kr_code.specs.Steps.{load_named, store_field, store_initial, store_item, cast_to, instance_of, throw_object}
use Rattle.kr_code.specs.Doing.{Doing, values_at, all_at, updates_at, run_method, run_numbered, run_on, initialised, constructed, create, array_of, initial_value, all_declared, condition, for_round, catch_at, caught_at}
use Rattle.kr_run_state.specs.declared.world.Local.{Local}
use Rattle.kr_run_state.specs.declared.action.Cell.{Cell}
use Rattle.kr_run_state.specs.declared.action.Cell.TheVariants as cells
use Rattle.kr_run_state.specs.Shown.{local_of}
use Rattle.kr_run_state.specs.Actions.{acted, written}
use Rattle.kr_run_frames.specs.declared.task.Task.{Task}
use Rattle.kr_run_frames.specs.declared.task.Task.TheVariants as tasks
use Rattle.kr_run_frames.specs.declared.frame.Goal.{Goal}
use Rattle.kr_run_frames.specs.declared.frame.Goal.TheVariants as goals
use Rattle.kr_run_frames.specs.declared.frame.Up.{Up}
use Rattle.kr_run_frames.specs.declared.frame.Change.{Change}
use Rattle.kr_run_frames.specs.declared.frame.Change.TheVariants as changes
use Rattle.kr_run_frames.specs.declared.frame.Loop.{Loop}
use Rattle.kr_run_frames.specs.declared.frame.Loop.TheVariants as loops
use Rattle.kr_run_frames.specs.declared.frame.WriteFrame.{WriteFrame}
use Rattle.kr_run_frames.specs.declared.frame.WriteFrame.TheVariants as writes
use Rattle.kr_run_frames.specs.declared.frame.ValueFrame.{ValueFrame}
use Rattle.kr_run_frames.specs.declared.frame.ValueFrame.TheVariants as values
use Rattle.kr_run_frames.specs.declared.frame.TestFrame.{TestFrame}
use Rattle.kr_run_frames.specs.declared.frame.TestFrame.TheVariants as tests
use Rattle.kr_run_frames.specs.declared.frame.FlowFrame.{FlowFrame}
use Rattle.kr_run_frames.specs.declared.frame.FlowFrame.TheVariants as leads
use Rattle.kr_run_frames.specs.declared.frame.UnitFrame.{UnitFrame}
use Rattle.kr_run_frames.specs.declared.frame.UnitFrame.TheVariants as units
use Rattle.kr_run_frames.specs.Frame.{Frame}
use Rattle.kr_run_frames.specs.Frame as frames

-- continuations of an outcome
abbrev pub continued : {A B : Type 0} → Outcome A → (A → Run B) → Outcome B
continued o f = go_on o.said o.after o.reads f

-- values that were found, the last one first, and then others
abbrev pub onto : List Value → List Value → List Value
onto [] vs = vs
onto (u ∷ us) vs = onto us (u ∷ vs)

-- ---- uses of arguments

abbrev pub applied : Code → Doing → Goal → List Value → Run Value
applied code d goals.Stop vs = stop Stuck
applied code d (goals.Run o m) vs = run_numbered code d o vs m
applied code d (goals.Own m) vs = get_this >>= (λ o. run_on code d m o vs)
applied code d (goals.On m o) vs = run_on code d m o vs
applied code d (goals.StaticOn m o) vs = class_of o >> run_method code d Null vs (method_at code m)
applied code d (goals.New c) vs = create code d c vs (class_at code c)
applied code d (goals.NewCollection class) vs = new_collection class vs
applied code d (goals.Collect c o) vs = collect (name_of c) o vs

-- after the superclass's constructor
abbrev pub behind : Code → Doing → Value → Nodes → Nodes → Run (Unit {0})
behind code d o initialisers body = do
  within o 0 [] (initialised code d o (listed code initialisers))
  flow ← all_at d (listed code body)
  completed flow

abbrev pub upwards : Code → Doing → Up → List Value → Run (Unit {0})
upwards code d up vs = do
  constructed code d (listed code up.line) up.object vs
  behind code d up.object up.initialisers up.body

-- ---- changes and loops

abbrev pub change_of : Doing → Change → Value → Run meaning.Change
change_of d (changes.Step o) = stepped o
change_of d (changes.Compound o e) = compound o (d.value e)

-- a variable changes from its value
abbrev pub altered : Code → Doing → Change → Cell → Value → Run Value
altered code d change cell v = do
  c ← change_of d change v
  written code cell c.new
  give c.given

abbrev pub test_of : Doing → Loop → Run Value
test_of d (loops.While e a) = d.value e
test_of d (loops.For e us a) = condition d e

abbrev pub round_of : Code → Doing → Loop → Run Flow
round_of code d (loops.While e a) = d.exec a
round_of code d (loops.For e us a) = for_round d a (listed code us)

abbrev pub repeated : Code → Doing → Loop → Run Flow
repeated code d l = d.loop (test_of d l) (round_of code d l)

-- after a loop's test
abbrev pub turned : Code → Doing → Loop → Value → Run Flow
turned code d l v = choose v (round_of code d l >>= (λ flow. then_round flow (repeated code d l))) (give flows.Next)

-- ---- frames

-- a variable is written, or its parts come next
abbrev pub wrote : Code → Doing → WriteFrame → Value → Run Value
wrote code d (writes.Put cell) v = written code cell v >> give v
wrote code d (writes.PutOwn field) v = get_this >>= (λ o. store_field code field o v >> give v)
wrote code d (writes.FieldOf field e) o = d.value e >>= (λ v. store_field code field o v >> give v)
wrote code d (writes.ItemOf i e t) a = d.value i >>= (λ j. d.value e >>= (λ v. store_item code t a j v >> give v))
wrote code d (writes.ItemAt e t a) j = d.value e >>= (λ v. store_item code t a j v >> give v)
wrote code d (writes.AlterField change name field) o = load_named code name o >>= altered code d change (cells.Field field o)
wrote code d (writes.AlterItemOf change i t) a = d.value i >>= (λ j. element a j >>= altered code d change (cells.Item t a j))
wrote code d (writes.AlterItemAt change t a) j = element a j >>= altered code d change (cells.Item t a j)
wrote code d (writes.Stepped o cell v) w = written code cell (change_from (gives_old o) v w).new >> give (change_from (gives_old o) v w).given
wrote code d (writes.Alter change cell) v = altered code d change cell v

abbrev pub got : Code → Doing → ValueFrame → Value → Run Value
got code d (values.Load name) v = load_named code name v
got code d (values.ElementOf i) v = d.value i >>= element v
got code d (values.ElementAt o) v = element o v
got code d (values.Unary o) v = say (operated_alone o v)
got code d (values.Left o b) v = d.value b >>= (λ w. say (operated o v w))
got code d (values.Right o u) v = say (operated o u v)
got code d (values.AndThen b) v = choose v (d.value b) (give (Truth false))
got code d (values.OrElse b) v = choose v (give (Truth true)) (d.value b)
got code d (values.Choose a b) v = choose v (d.value a) (d.value b)
got code d (values.Instance t) v = class_or_null v >>= (λ class. give (instance_of code t class))
got code d (values.Cast t) v = class_or_null v >>= cast_to code t v
got code d (values.NewArray k default) v = array_of k default v
got code d (values.CallOn m ns) v = values_at d (listed code ns) >>= run_on code d m v
got code d (values.StaticCallOn m ns) v = values_at d (listed code ns) >>= (λ vs. class_of v >> run_method code d Null vs (method_at code m))
got code d (values.CallCollection c ns) v = values_at d (listed code ns) >>= collect (name_of c) v
got code d (values.Write f) v = wrote code d f v

abbrev pub tested : Code → Doing → TestFrame → Value → Run Flow
tested code d (tests.Then a) v = choose v (d.exec a) (give flows.Next)
tested code d (tests.Branch a b) v = choose v (d.exec a) (d.exec b)
tested code d tests.Discard v = give flows.Next
tested code d tests.Return v = give (flows.Gave v)
tested code d tests.Throw v = throw_object code v
tested code d (tests.Initial k ns) v = assign k v >> all_declared code d (listed code ns)
tested code d (tests.Declared k e ns) v = initial_value d k e >> all_declared code d (listed code ns)
tested code d (tests.Rest ns) v = all_declared code d (listed code ns)
tested code d (tests.Updates ns) v = updates_at d (listed code ns)
tested code d (tests.Begin l) v = test_of d l >>= turned code d l
tested code d (tests.Test l) v = turned code d l v

abbrev pub led : Code → Doing → FlowFrame → Flow → Run Flow
led code d (leads.Rest ns) flow = then_on flow (all_at d (listed code ns))
led code d (leads.Again l) flow = then_round flow (repeated code d l)
led code d (leads.Update ns) flow = then_update flow (updates_at d (listed code ns))
led code d (leads.First l) flow = then_on flow (repeated code d l)

abbrev pub done : Code → Doing → UnitFrame → Run (Unit {0})
done code d (units.Behind o initialisers body) = behind code d o initialisers body
done code d (units.Body body) = all_at d (listed code body) >>= completed
done code d (units.Initialise ns o) = initialised code d o (listed code ns)

-- with `this` and locals as they were
abbrev pub restored : {A : Type 0} → Value → List Local → Outcome A → Outcome A
restored this locals o = record { said = o.said; after = record o.after { this_value = this; locals = map local_of locals }; reads = o.reads }

-- without the locals after so many
abbrev pub cut_to : {A : Type 0} → ℕ → Outcome A → Outcome A
cut_to n o = record { said = o.said; after = record o.after { locals = take n o.after.locals }; reads = o.reads }

-- after a block with these clauses
abbrev pub caught : Code → Doing → Nodes → Outcome Flow → Outcome Flow
caught code d cs o = caught_by (handled o.said (caught_at code d (listed code cs))) o

-- A run stops at a frame: the frame is passed by, and with it a block's locals end, or a body; a clause of a `try` may catch what
-- is thrown. The frames below it go on by these.
abbrev pub passed : Code → Doing → Frame → (Stop → State → Outcome Value) → (Outcome Flow → Outcome Value) → Stop → State → Outcome Value
passed code d (frames.Scope n) stopping leading e s = stopping e (record s { locals = take n s.locals })
passed code d (frames.Catch cs) stopping leading e s = leading (caught code d cs (stop e s))
passed code d (frames.Leave void this locals) stopping leading e s = stopping e (record s { this_value = this; locals = map local_of locals })
passed code d (frames.Back this locals) stopping leading e s = stopping e (record s { this_value = this; locals = map local_of locals })
passed code d f stopping leading e s = stopping e s

-- the topmost frame waits for something else: the run is stuck, and stops
abbrev pub missed : {A : Type 0} → (Stop → State → Outcome Value) → Result A Stop → State → List SlotPlace → Outcome Value
missed stopping (Ok a) s reads = after_reads reads (stopping Stuck s)
missed stopping (Err e) s reads = after_reads reads (stopping e s)

abbrev pub misled : {A : Type 0} → (Stop → State → Outcome Value) → Outcome A → Outcome Value
misled stopping o = missed stopping o.said o.after o.reads

-- ---- stacks

abbrev mutual
  -- the run stops
  pub stopped : Code → Doing → List Frame → Stop → State → Outcome Value
  stopped code d [] e s = stop e s
  stopped code d (f ∷ fs) e s = passed code d f (λ k t. stopped code d fs k t) (λ o. out_flow code d fs o) e s

  -- a value has come
  pub out_value : Code → Doing → List Frame → Outcome Value → Outcome Value
  out_value code d [] o = o
  out_value code d (frames.Value f ∷ fs) o = out_value code d fs (continued o (got code d f))
  out_value code d (frames.Test f ∷ fs) o = out_flow code d fs (continued o (tested code d f))
  out_value code d (frames.Arguments goal ns vs ∷ fs) o =
      out_value code d fs (continued (continued o (λ v. values_at d (listed code ns) >>= (λ ws. give (v ∷ ws)))) (λ ws. applied code d goal (onto (reverse vs) ws)))
  out_value code d (frames.UpArguments up ns vs ∷ fs) o =
      out_unit code d fs (continued (continued o (λ v. values_at d (listed code ns) >>= (λ ws. give (v ∷ ws)))) (λ ws. upwards code d up (onto (reverse vs) ws)))
  out_value code d (frames.UpEnter up ns ∷ fs) o = out_unit code d fs (continued o (λ v. values_at d (listed code ns) >>= upwards code d up))
  out_value code d (frames.Store field object ∷ fs) o = out_unit code d fs (continued o (store_initial code field object))
  out_value code d (f ∷ fs) o = misled (passed code d f (λ k t. stopped code d fs k t) (λ q. out_flow code d fs q)) o

  -- a statement has led on
  pub out_flow : Code → Doing → List Frame → Outcome Flow → Outcome Value
  out_flow code d (frames.Flow f ∷ fs) o = out_flow code d fs (continued o (led code d f))
  out_flow code d (frames.Scope n ∷ fs) o = out_flow code d fs (cut_to n o)
  out_flow code d (frames.Catch cs ∷ fs) o = out_flow code d fs (caught code d cs o)
  out_flow code d (frames.Leave void this locals ∷ fs) o = out_value code d fs (restored this locals (continued o (returned void)))
  out_flow code d (frames.Complete ∷ fs) o = out_unit code d fs (continued o completed)
  out_flow code d [] o = misled (λ k t. stop k t) o
  out_flow code d (f ∷ fs) o = misled (passed code d f (λ k t. stopped code d fs k t) (λ q. out_flow code d fs q)) o

  -- something is done that gives nothing
  pub out_unit : Code → Doing → List Frame → Outcome (Unit {0}) → Outcome Value
  out_unit code d (frames.Unit f ∷ fs) o = out_unit code d fs (continued o (λ u. done code d f))
  out_unit code d (frames.Construct line object vs ∷ fs) o = out_unit code d fs (continued o (λ u. constructed code d (listed code line) object vs))
  out_unit code d (frames.Back this locals ∷ fs) o = out_unit code d fs (restored this locals o)
  out_unit code d (frames.Made object ∷ fs) o = out_value code d fs (continued o (λ u. give object))
  out_unit code d [] o = misled (λ k t. stop k t) o
  out_unit code d (f ∷ fs) o = misled (passed code d f (λ k t. stopped code d fs k t) (λ q. out_flow code d fs q)) o

-- the arguments that are left come for the topmost frame
abbrev pub out_arguments : Code → Doing → List Frame → State → Outcome Value
out_arguments code d (frames.Arguments goal ns vs ∷ fs) s = out_value code d fs (continued (values_at d (listed code ns) s) (λ ws. applied code d goal (onto (reverse vs) ws)))
out_arguments code d (frames.UpArguments up ns vs ∷ fs) s = out_unit code d fs (continued (values_at d (listed code ns) s) (λ ws. upwards code d up (onto (reverse vs) ws)))
out_arguments code d fs s = stopped code d fs Stuck s

-- the outcome of the whole run, where a task comes next
abbrev pub resumed : Code → Doing → List Frame → Task → State → Outcome Value
resumed code d fs (tasks.Evaluate i) s = out_value code d fs (d.value i s)
resumed code d fs (tasks.Execute i) s = out_flow code d fs (d.exec i s)
resumed code d fs (tasks.Got v) s = out_value code d fs (give v s)
resumed code d fs (tasks.Led flow) s = out_flow code d fs (give flow s)
resumed code d fs tasks.Done s = out_unit code d fs (give tt s)
resumed code d fs (tasks.Act action) s = out_value code d fs (acted code action s)
resumed code d fs (tasks.Alter change cell v) s = out_value code d fs (altered code d change cell v s)
resumed code d fs tasks.Arguments s = out_arguments code d fs s
resumed code d fs (tasks.All ns) s = out_flow code d fs (all_at d (listed code ns) s)
resumed code d fs (tasks.Declare ns) s = out_flow code d fs (all_declared code d (listed code ns) s)
resumed code d fs (tasks.Update ns) s = out_flow code d fs (updates_at d (listed code ns) s)
resumed code d fs (tasks.Repeat l) s = out_flow code d fs (repeated code d l s)
resumed code d fs (tasks.Throw v) s = out_flow code d fs (throw_object code v s)
resumed code d fs (tasks.Catch k b) s = out_flow code d fs (catch_at code d b k s)
resumed code d fs (tasks.Initialise ns o) s = out_unit code d fs (initialised code d o (listed code ns) s)
