-- Between crates: what it means to evaluate an expression of a contract, in a heap, with what it sees and some fuel: how the run
-- ends, and the heap and the fuel that it leaves.
use Rattle.std.specs.Prelude.{ℕ, false, List, [], ◌∷◌, ◌++◌, map, None, option_to_list}
use Rattle.kr_base.specs.declared.place.Place.{Place}
use Rattle.kr_value.specs.declared.value.Value.{Value}
use Rattle.kr_value.specs.Heaps.{Heap}
use Rattle.kr_classes_table.specs.Table as tables
use Rattle.kr_mean.specs.Program.{Program}
use Rattle.kr_mean.specs.Steps.{Local, Old, State, plain_local}
use Rattle.kr_mean.specs.Meaning.{value}
use Rattle.kr_mean.specs.Code.{Node}
use Rattle.kr_mean.specs.Verdicts.{OldNode, olds_of}
use Rattle.kr_code.specs.Doing.{Doing}
use Rattle.kr_run_method.specs.declared.executed.Env.{Env}
use Rattle.kr_run_method.specs.declared.executed.Executed.{Executed}
use Rattle.kr_run_method.specs.Executed.{left_by}

abbrev pub places_of : List OldNode → List Place
places_of os = map (λ o. o.place) os

-- each value by the place at its position
abbrev pub with_places : List Place → List Value → List Old
with_places (p ∷ ps) (v ∷ vs) = record { place = p; value = v } ∷ with_places ps vs
with_places (p ∷ ps) [] = []
with_places [] vs = []

-- the locals: the arguments, and then what is thrown
abbrev pub seen_locals : Env → List Local
seen_locals env = map plain_local env.arguments.items ++ map plain_local (option_to_list env.thrown)

-- The environment of an expression as a state, where a method's `\old`s are at these places. The heap has no candidates.
abbrev pub seen : List Place → Env → Heap → ℕ → State
seen places env heap fuel = record {
  this_value = env.this;
  locals = seen_locals env;
  result = env.result;
  olds = with_places places env.olds.items;
  thrown = None;
  heap = heap;
  candidates = 0;
  fuel = fuel;
}

-- an expression of a method's contract, in a program
abbrev pub evaluated : Program → tables.Method → Node → Env → Heap → ℕ → Executed
evaluated program m e env heap fuel = left_by false (value program e.scope e.tree (seen (places_of (olds_of program m)) env heap fuel))

-- a node of code
abbrev pub evaluated_at : Doing → ℕ → List Place → Env → Heap → ℕ → Executed
evaluated_at d node places env heap fuel = left_by false (d.value node (seen places env heap fuel))
