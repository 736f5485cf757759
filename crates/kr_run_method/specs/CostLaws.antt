-- Between crates: what a run costs.
use Rattle.std.specs.Prelude.{◌≡◌, ℕ, ◌+◌, ◌<◌, ◌≤◌, List, Err}
use Rattle.kr_value.specs.declared.value.Value.{Value}
use Rattle.kr_classes_table.specs.Table.{Method}
use Rattle.kr_mean.specs.declared.kind.Stop.TheVariants.{OutOfFuel}
use Rattle.kr_mean.specs.Program.{Program}
use Rattle.kr_mean.specs.Steps.{State, Outcome}
use Rattle.kr_ast.specs.Tree.{Tree}
use Rattle.kr_types_meaning.specs.Scopes.{Scope}
use Rattle.kr_mean.specs.Meaning.{value, body_of}

abbrev pub IsSpent : Outcome Value → Type 0
IsSpent o = o.said ≡ Err OutOfFuel

-- an outcome once more, with so much more fuel left
pub record IsSameWith (more : ℕ) (o o' : Outcome Value) : Type 0 where
  pub said : o'.said ≡ o.said
  pub after : o'.after ≡ record o.after { fuel = o.after.fuel + more }

-- A run is out of fuel exactly below its cost; with its cost nothing is left, and more fuel changes nothing but how much is
-- left.
pub record Costs (run : ℕ → Outcome Value) (cost : ℕ) : Type 0 where
  pub below : (fuel : ℕ) → fuel < cost → IsSpent (run fuel)
  pub enough : IsSpent (run cost) → ⊥
  pub above : (more : ℕ) → IsSameWith more (run cost) (run (cost + more))
  pub exact : (run cost).after.fuel ≡ 0

-- a method's body with a receiver and arguments, by the fuel
abbrev pub with_fuel : Program → Value → List Value → Method → State → ℕ → Outcome Value
with_fuel program receiver arguments m s fuel = body_of program receiver arguments m (record s { fuel = fuel })

abbrev pub CostLaw : Type 0
CostLaw = (program : Program) (receiver : Value) (arguments : List Value) (m : Method) (s : State) (fuel : ℕ) → (IsSpent (with_fuel program receiver arguments m s fuel) → ⊥)
    → (cost : ℕ) × (cost ≤ fuel) × Costs (with_fuel program receiver arguments m s) cost

-- an expression's value, by the fuel
abbrev pub value_with_fuel : Program → Scope → Tree → State → ℕ → Outcome Value
value_with_fuel program scope tree s fuel = value program scope tree (record s { fuel = fuel })

abbrev pub ValueCostLaw : Type 0
ValueCostLaw = (program : Program) (scope : Scope) (tree : Tree) (s : State) (fuel : ℕ) → (IsSpent (value_with_fuel program scope tree s fuel) → ⊥)
    → (cost : ℕ) × (cost ≤ fuel) × Costs (value_with_fuel program scope tree s) cost
