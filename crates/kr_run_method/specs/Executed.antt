-- Between crates: what it means to run a method on values, in a heap and with some fuel: how the run ends, the heap and the fuel
-- that it leaves, and what is thrown.
use Rattle.std.specs.Prelude.{◌≡◌, ℕ, Bool, true, false, List, [], ◌∷◌, Option, Some, None, Result, Ok, Err}
use Rattle.kr_value.specs.declared.value.Value.{Value}
use Rattle.kr_value.specs.declared.value.Value.TheVariants.{Null}
use Rattle.kr_value.specs.Heaps.{Heap}
use Rattle.kr_classes_table.specs.Types.{is_void}
use Rattle.kr_classes_table.specs.Table as tables
use Rattle.kr_mean.specs.declared.kind.Stop.{Stop}
use Rattle.kr_mean.specs.declared.kind.Stop.TheVariants.{Trapped, OutOfFuel, Stuck}
use Rattle.kr_mean.specs.Program.{Program}
use Rattle.kr_mean.specs.Steps.{State, Outcome, Run, stop}
use Rattle.kr_mean.specs.Meaning.{body_of}
use Rattle.kr_code.specs.declared.code.Code.{Code}
use Rattle.kr_code.specs.declared.code.MethodCode.{MethodCode}
use Rattle.kr_code.specs.Doing.{Doing, run_method}
use Rattle.kr_code.specs.Resolved.{Numbering, IsMethod}
use Rattle.kr_code.specs.Tables.{method_at}
use Rattle.kr_run_method.specs.declared.executed.Executed.{Executed}
use Rattle.kr_run_method.specs.declared.executed.Method.{Method}

-- ---- before the run

-- nothing is there but the heap, which has no candidates, and the fuel
abbrev pub begun : Heap → ℕ → State
begun heap fuel = record {
  this_value = Null;
  locals = [];
  result = None;
  olds = [];
  thrown = None;
  heap = heap;
  candidates = 0;
  fuel = fuel;
}

-- The first value given to an instance method is its receiver, the others are the arguments; a static method has no receiver.
abbrev pub run_on : Bool → (Value → List Value → Run Value) → List Value → Run Value
run_on true body values = body Null values
run_on false body (receiver ∷ arguments) = body receiver arguments
run_on false body [] = stop Stuck

-- ---- after it

-- A method without result gives no value.
abbrev pub ending_of : Bool → Result Value Stop → Result (Option Value) Stop
ending_of true (Ok v) = Ok None
ending_of false (Ok v) = Ok (Some v)
ending_of void (Err (Trapped kind)) = Err (Trapped kind)
ending_of void (Err OutOfFuel) = Err OutOfFuel
ending_of void (Err Stuck) = Err Stuck

abbrev pub left_by : Bool → Outcome Value → Executed
left_by void o = record { end = ending_of void o.said; heap = o.after.heap; left = o.after.fuel; thrown = o.after.thrown }

-- ---- the whole

-- a program's method
abbrev pub executed : Program → tables.Method → List Value → Heap → ℕ → Executed
executed program m values heap fuel =
    left_by (is_void m.result) (run_on m.is_static (λ receiver arguments. body_of program receiver arguments m) values (begun heap fuel))

abbrev pub gives_nothing : Option MethodCode → Bool
gives_nothing (Some k) = k.is_void
gives_nothing None = false

-- a method of code, by what the code's nodes do
abbrev pub executed_at : Code → Doing → Method → List Value → Heap → ℕ → Executed
executed_at code d method values heap fuel =
    left_by (gives_nothing (method_at code method.number)) (run_on method.is_static (λ receiver arguments. run_method code d receiver arguments (method_at code method.number)) values (begun heap fuel))

-- The code has the program's method by this number.
pub record IsMethodOf (code : Code) (n : Numbering) (m : tables.Method) (method : Method) : Type 0 where
  pub numbered : IsMethod code n m method.number
  pub is_static : method.is_static ≡ m.is_static
