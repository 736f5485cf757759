-- Runs of a problem's candidates, where its slots are laid out and its predicate is code.
use Rattle.std.proofs.Common.{◌≡◌, ℕ, suc, ◌-◌, ◌<◌, Bool, List, length, Result, refl, sym, ap, ◌∙◌, subst, arith}
use Rattle.std.proofs.lemmas.List.{length-map}
use Rattle.kr_mean.specs.declared.kind.Stop.{Stop}
use Rattle.kr_mean.specs.Code.{Node}
use Rattle.std.proofs.Math.Logic.{∥∥₁_elim}
use Rattle.std.proofs.Props.{props}
use Rattle.kr_mean.specs.Problem.{Problem}
use Rattle.kr_mean.specs.Program.{Program}
use Rattle.kr_mean.specs.Runs.{end_on, order_of}
use Rattle.kr_code.specs.Resolved.{Numbering}
use Rattle.kr_space_layout.specs.Bounds.{Bounds, problem_with}
use Rattle.kr_judge.specs.Predicates.{IsPredicateOf}
use Rattle.kr_judge.specs.Runs.{end_said}
use Rattle.kr_judge.specs.declared.predicate.Predicate.{Predicate}
use Rattle.kr_step.specs.Scans.{ending_of}
use Rattle.kr_step.specs.declared.candidates.Ending.{Ending}
use Rattle.kr_step.specs.declared.candidates.Ending.TheVariants.{Valid, Invalid, Spent}
use Rattle.kr_judge_prepared.specs.Preparing.{IsRunBy}

-- ---- endings by numbers

number_of : Ending → ℕ
number_of Valid = 0
number_of Invalid = 1
number_of Spent = 2

by_number : (a c : Ending) → number_of a ≡ number_of c → a ≡ c
unfolding number_of
by_number Valid Valid e = refl
by_number Invalid Invalid e = refl
by_number Spent Spent e = refl
by_number Valid Invalid e = absurd (cc (e))
by_number Valid Spent e = absurd (cc (e))
by_number Invalid Valid e = absurd (cc (e))
by_number Invalid Spent e = absurd (cc (e))
by_number Spent Valid e = absurd (cc (e))
by_number Spent Invalid e = absurd (cc (e))

-- ---- conditions

-- a problem's predicate has a condition
pub some_condition : (problem : Problem) (predicate : Predicate) → IsRunBy problem predicate → 0 < length predicate.conditions.items
some_condition problem predicate is = omega (arith, one)
  where
    n : ℕ
    n = length predicate.conditions.items

    first : (k m : ℕ) → k ≡ suc m → k ≡ suc (k - 1)
    first k m e = omega (arith, e)

    one : n ≡ suc (n - 1)
    one = ∥∥₁_elim is (Prim.hlevel props) (λ p. first n _ (sym (length-map predicate.conditions.items p.0.origin) ∙ ap (λ (es : List Node). length es) p.1.conditions))

-- ---- runs

module _ (problem : Problem) (b : Bounds) (v : List ℕ) (predicate : Predicate) (laid : problem ≡ problem_with problem.program b) (is : IsRunBy problem predicate) where
  by_laid : (n : Numbering) → IsPredicateOf problem predicate n → IsPredicateOf (problem_with problem.program b) predicate n
  by_laid n p = subst (λ (q : Problem). IsPredicateOf q predicate n) laid p

  pub ends_as : (j : Result Bool Stop) → ((program : Program) (n : Numbering) → IsPredicateOf (problem_with program b) predicate n → end_said j ≡ end_on (problem_with program b) v) → ending_of (end_said j) ≡ ending_of (end_on problem v)
  ends_as j h =
      by_number (ending_of (end_said j)) (ending_of (end_on problem v)) (∥∥₁_elim is (Prim.hlevel props)
      (λ p. ap (λ e. number_of (ending_of e)) (h problem.program p.0 (by_laid p.0 p.1) ∙ ap (λ (q : Problem). end_on q v) (sym laid))))

  pub order_as : (order : List ℕ) → ((program : Program) (n : Numbering) → IsPredicateOf (problem_with program b) predicate n → order ≡ order_of (problem_with program b) v) → order ≡ order_of problem v
  order_as order h = ∥∥₁_elim is (Prim.hlevel props) (λ p. h problem.program p.0 (by_laid p.0 p.1) ∙ ap (λ (q : Problem). order_of q v) (sym laid))
