-- Between crates: the meaning without a bound: what a node does, by what its parts do.
use Rattle.std.specs.Prelude.{◌≡◌, ℕ, ◌≤◌, List, Some}
use Rattle.kr_ast.specs.Tree.{Tree}
use Rattle.kr_value.specs.declared.value.Value.{Value}
use Rattle.kr_classes_table.specs.Table.{Method}
use Rattle.kr_types_meaning.specs.Scopes.{Scope}
use Rattle.kr_mean.specs.Program.{Program}
use Rattle.kr_mean.specs.Steps.{State, Run, give, ◌>>=◌, ◌>>◌, tick}
use Rattle.kr_mean.specs.declared.flow.Flow.{Flow}
use Rattle.kr_mean.specs.declared.flow.Flow.TheVariants.{Next}
use Rattle.kr_mean.specs.Meaning.{choose, then_round, rounds, run_method, value_of, statement, eval, exec, value, execute, loop, unbounded, body_of}

-- fuel is spent and never given back
abbrev pub Spends : {A : Type 0} → Run A → Type 0
Spends m = (s : State) → (m s).after.fuel ≤ s.fuel

-- a loop's test, and where it holds the body and the rest
abbrev pub round : Run Value → Run Flow → Run Flow → Run Flow
round test body rest = tick >> (test >>= (λ v. choose v (body >>= (λ flow. then_round flow rest)) (give Next)))

-- The equations of values, statements, loops and bodies, and that every bound of at least the fuel is as good as the fuel.
pub record HasEquations (program : Program) : Type 0 where
  pub value_is : (s : Scope) (e : Tree) (state : State) → value program s e state ≡ (tick >> value_of program (unbounded program) s e) state
  pub execute_is : (s : Scope) (t : Tree) (state : State) → execute program s t state ≡ statement program (unbounded program) s t state
  pub loop_is : (test : Run Value) (body : Run Flow) → Spends test → Spends body → (state : State) → loop test body state ≡ round test body (loop test body) state
  pub body_is : (receiver : Value) (arguments : List Value) (m : Method) (state : State) → body_of program receiver arguments m state ≡ run_method program (unbounded program) receiver arguments (Some m) state
  pub value_spends : (s : Scope) (e : Tree) → Spends (value program s e)
  pub execute_spends : (s : Scope) (t : Tree) → Spends (execute program s t)
  pub enough_for_values : (n : ℕ) (s : Scope) (e : Tree) (state : State) → state.fuel ≤ n → eval program n s e state ≡ value program s e state
  pub enough_for_statements : (n : ℕ) (s : Scope) (t : Tree) (state : State) → state.fuel ≤ n → exec program n s t state ≡ execute program s t state
  pub enough_for_loops : (n : ℕ) (test : Run Value) (body : Run Flow) → Spends test → Spends body → (state : State) → state.fuel ≤ n → rounds n test body state ≡ loop test body state

abbrev pub BoundsLaw : Type 0
BoundsLaw = (program : Program) → HasEquations program
