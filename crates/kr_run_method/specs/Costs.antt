-- Between crates: what it costs to run a method on values, and to evaluate an expression of its contract.
use Rattle.std.specs.Prelude.{◌≡◌, ℕ, ◌+◌, ◌<◌, ◌≤◌, List, Err}
use Rattle.kr_value.specs.declared.value.Value.{Value}
use Rattle.kr_value.specs.Heaps.{Heap}
use Rattle.kr_classes_table.specs.Table as tables
use Rattle.kr_mean.specs.declared.kind.Stop.TheVariants.{OutOfFuel}
use Rattle.kr_mean.specs.Program.{Program}
use Rattle.kr_mean.specs.Code.{Node}
use Rattle.kr_run_method.specs.declared.executed.Env.{Env}
use Rattle.kr_run_method.specs.declared.executed.Executed.{Executed}
use Rattle.kr_run_method.specs.Evaluated.{evaluated}
use Rattle.kr_run_method.specs.Executed.{executed}

-- A run by its fuel is spent exactly where its cost is above the fuel; with its cost nothing is left, and more fuel changes nothing
-- but what is left.
pub record HasCost (run : ℕ → Executed) (cost : ℕ) : Type 0 where
  pub below : (fuel : ℕ) → fuel < cost → (run fuel).end ≡ Err OutOfFuel
  pub enough : (run cost).end ≡ Err OutOfFuel → ⊥
  pub above : (more : ℕ) → run (cost + more) ≡ record (run cost) { left = (run cost).left + more }
  pub exact : (run cost).left ≡ 0

abbrev pub SpentLaw : Type 0
SpentLaw = (program : Program) (m : tables.Method) (values : List Value) (heap : Heap) (fuel : ℕ) → ((executed program m values heap fuel).end ≡ Err OutOfFuel → ⊥)
    → (cost : ℕ) × (cost ≤ fuel) × HasCost (executed program m values heap) cost

abbrev pub EvaluatedSpentLaw : Type 0
EvaluatedSpentLaw = (program : Program) (m : tables.Method) (e : Node) (env : Env) (heap : Heap) (fuel : ℕ) → ((evaluated program m e env heap fuel).end ≡ Err OutOfFuel → ⊥)
    → (cost : ℕ) × (cost ≤ fuel) × HasCost (evaluated program m e env heap) cost
