-- Worked calls and expressions, as the checker computes them.
use Rattle.std.proofs.Common.{◌≡◌, ◌<◌, List, [], ◌∷◌, true, false, refl, sym, subst, arith}
use Rattle.std.specs.Prelude.{Option, Some, None, pos, codes}
use Rattle.kr_value.specs.declared.value.Value.{Value}
use Rattle.kr_value.specs.declared.value.Value.TheVariants.{Int, Ref as Reference}
use Rattle.kr_value.specs.declared.value.Value.TheVariants as values
use Rattle.kr_classes_table.specs.Numbers.{Width, Bits32, Bits64}
use Rattle.kr_classes_table.specs.Types.{JavaType, NumberType, ClassType, int_type}
use Rattle.kr_classes_table.specs.Table.{table_of}
use Rattle.kr_classes_table.specs.Constants.{values_of, is_constant, evaluated, constant_width}
use Rattle.kr_types_meaning.specs.Typing.{judged}
use Rattle.kr_mean.specs.Runs.{tested_method, requires_of, ensures_of}
use Rattle.kr_laws_safety.specs.Fits.{IsWithin, AreOf}
use Rattle.kr_laws_safety.specs.Triples.{IsResult, IsThis}
use Rattle.kr_run_method.specs.declared.executed.Env.{Env}
use Rattle.kr_run_method.specs.Fits as fits
use Rattle.kr_run_method.specs.Fits.{IsCall, IsEvaluation}
use Rattle.korat_rows.specs.Listings.{plus}
use Rattle.korat_rows.specs.Calls.{Calls, IsSeen, OfOne, OfTested, cell}

abbrev types : List JavaType
types = ClassType 0 ∷ []

plus_called : OfTested (λ m. IsCall plus.program m (Reference 0 ∷ Int (pos 1) ∷ []) cell) (tested_method plus plus.mode)
unfolding table_of values_of is_constant evaluated constant_width judged
plus_called = record {
  class = 0;
  name = codes "plus";
  named = refl;
  types = types;
  objects = ((refl, ((Bits32, refl, omega arith), tt)), tt);
  given = ((0, refl, (omega arith, refl)), ((Bits32, refl, omega arith), tt));
}

plus_on_null : OfTested (λ m. IsCall plus.program m (values.Null ∷ Int (pos 1) ∷ []) cell → ⊥) (tested_method plus plus.mode)
unfolding table_of values_of is_constant evaluated constant_width judged
plus_on_null = λ c. absurd (cc (c.given.0.1))

plus_of_nothing : OfTested (λ m. IsCall plus.program m (Reference 0 ∷ []) cell → ⊥) (tested_method plus plus.mode)
unfolding table_of values_of is_constant evaluated constant_width judged
plus_of_nothing = λ c. absurd c.given.1

plus_of_truth : OfTested (λ m. IsCall plus.program m (Reference 0 ∷ values.Bool true ∷ []) cell → ⊥) (tested_method plus plus.mode)
unfolding table_of values_of is_constant evaluated constant_width judged
plus_of_truth = λ c. absurd (cc (c.given.1.0))

-- no int is so great
beyond : (w : Width) → int_type ≡ NumberType w → IsWithin w (pos 2147483648) → ⊥
beyond Bits32 e h = omega (arith, h)
beyond Bits64 e h = cc (e)

plus_of_long : OfTested (λ m. IsCall plus.program m (Reference 0 ∷ Int (pos 2147483648) ∷ []) cell → ⊥) (tested_method plus plus.mode)
unfolding table_of values_of is_constant evaluated constant_width judged
plus_of_long = λ c. beyond c.given.1.0.0 c.given.1.0.1 c.given.1.0.2

-- what both see
this_is : (env : Env) → IsSeen env → IsThis plus.program.table types (Some 0) env.this
unfolding table_of values_of is_constant evaluated constant_width judged
this_is env s = (0, s.this, (omega arith, refl))

arguments_are : (env : Env) → IsSeen env → AreOf plus.program.table types (int_type ∷ []) env.arguments.items
unfolding table_of values_of is_constant evaluated constant_width judged
arguments_are env s = subst (λ (vs : List Value). AreOf plus.program.table types (int_type ∷ []) vs) (sym s.arguments) ((Bits32, refl, omega arith), tt)

required : (env : Env) → IsSeen env → OfTested (λ m. OfOne (λ e. IsEvaluation plus.program m e env cell) (requires_of plus.program m)) (tested_method plus plus.mode)
unfolding table_of values_of is_constant evaluated constant_width judged
required env s = record {
  class = 0;
  name = codes "plus";
  named = refl;
  is_after = false;
  thrown_as = None;
  expression = fits.required _ (λ olds. record { code = (tt, tt); unbroken = refl; boolean = refl });
  types = types;
  objects = ((refl, ((Bits32, refl, omega arith), tt)), tt);
  this = this_is env s;
  arguments = arguments_are env s;
  thrown = s.thrown;
  seen = tt;
}

ensured : (env : Env) → IsSeen env → OfTested (λ m. OfOne (λ e. IsEvaluation plus.program m e env cell) (ensures_of plus.program m)) (tested_method plus plus.mode)
unfolding table_of values_of is_constant evaluated constant_width judged
ensured env s = record {
  class = 0;
  name = codes "plus";
  named = refl;
  is_after = true;
  thrown_as = None;
  expression = fits.ensured _ (record { code = (tt, (tt, tt)); unbroken = refl; boolean = refl });
  types = types;
  objects = ((refl, ((Bits32, refl, omega arith), tt)), tt);
  this = this_is env s;
  arguments = arguments_are env s;
  thrown = s.thrown;
  seen = (
    λ r. subst (λ (v : Option Value). IsResult plus.program.table types (Some int_type) v) (sym s.result) (Bits32, refl, omega arith),
    subst (λ (vs : List Value). AreOf plus.program.table types [] vs) (sym s.olds) tt,
  );
}

pub calls : Calls
calls = record {
  plus_called = plus_called;
  plus_on_null = plus_on_null;
  plus_of_nothing = plus_of_nothing;
  plus_of_truth = plus_of_truth;
  plus_of_long = plus_of_long;
  required = required;
  ensured = ensured;
}
