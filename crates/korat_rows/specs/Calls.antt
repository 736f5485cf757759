-- Between crates: a call, and expressions of a contract, that typing accepts, worked by hand.
use Rattle.std.specs.Prelude.{◌≡◌, true, List, [], ◌∷◌, pos, Option, Some, None}
use Rattle.kr_value.specs.declared.value.Value.TheVariants.{Int, Ref as Reference}
use Rattle.kr_value.specs.declared.value.Value.TheVariants as values
use Rattle.kr_value.specs.declared.object.Class.TheVariants.{Object}
use Rattle.kr_value.specs.Heaps.{Heap}
use Rattle.kr_classes_table.specs.Table.{Method}
use Rattle.kr_mean.specs.Code.{Node}
use Rattle.kr_mean.specs.Runs.{tested_method, requires_of, ensures_of}
use Rattle.kr_run_method.specs.declared.executed.Env.{Env}
use Rattle.kr_run_method.specs.Fits.{IsCall, IsEvaluation}
use Rattle.korat_rows.specs.Listings.{plus}

-- a `Cell` whose `v` is 0
abbrev pub cell : Heap
cell = record { class = Object 0; values = Int (pos 0) ∷ [] } ∷ []

-- of the method under test
abbrev pub OfTested : (Method → Type 0) → Option Method → Type 0
OfTested P None = ⊥
OfTested P (Some m) = P m

-- of the one condition of a kind
abbrev pub OfOne : (Node → Type 0) → List Node → Type 0
OfOne P (e ∷ []) = P e
OfOne P es = ⊥

-- `this` is the cell, `x` is 1, nothing is thrown, `\result` is 1, and there is no `\old`
pub record IsSeen (env : Env) : Type 0 where
  pub this : env.this ≡ Reference 0
  pub arguments : env.arguments.items ≡ Int (pos 1) ∷ []
  pub thrown : env.thrown ≡ None
  pub result : env.result ≡ Some (Int (pos 1))
  pub olds : env.olds.items ≡ []

pub record Calls : Type 0 where
  -- plus(1) on the cell
  pub plus_called : OfTested (λ m. IsCall plus.program m (Reference 0 ∷ Int (pos 1) ∷ []) cell) (tested_method plus plus.mode)
  -- no receiver, no argument, and a boolean or a number that is no int for an argument
  pub plus_on_null : OfTested (λ m. IsCall plus.program m (values.Null ∷ Int (pos 1) ∷ []) cell → ⊥) (tested_method plus plus.mode)
  pub plus_of_nothing : OfTested (λ m. IsCall plus.program m (Reference 0 ∷ []) cell → ⊥) (tested_method plus plus.mode)
  pub plus_of_truth : OfTested (λ m. IsCall plus.program m (Reference 0 ∷ values.Bool true ∷ []) cell → ⊥) (tested_method plus plus.mode)
  pub plus_of_long : OfTested (λ m. IsCall plus.program m (Reference 0 ∷ Int (pos 2147483648) ∷ []) cell → ⊥) (tested_method plus plus.mode)
  -- x > 0, and \result == v + x
  pub required : (env : Env) → IsSeen env → OfTested (λ m. OfOne (λ e. IsEvaluation plus.program m e env cell) (requires_of plus.program m)) (tested_method plus plus.mode)
  pub ensured : (env : Env) → IsSeen env → OfTested (λ m. OfOne (λ e. IsEvaluation plus.program m e env cell) (ensures_of plus.program m)) (tested_method plus plus.mode)
