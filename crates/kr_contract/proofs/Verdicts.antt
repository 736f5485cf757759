-- Verdicts of a problem that is laid out and whose code is known in some numbering.
use Rattle.std.proofs.Common.{◌≡◌, ℕ, List, [], ◌∷◌, Option, Some, None, Result, Ok, Err, refl, sym, ap, ◌∙◌, subst}
use Rattle.std.specs.Prelude.{IfOk, if◌then◌else◌, map, nat_eq}
use Rattle.std.proofs.Math.Logic.{∥∥₁_elim}
use Rattle.std.proofs.Props.{props}
use Rattle.kr_base.specs.declared.memory.NoMemory.{NoMemory}
use Rattle.kr_classes_table.specs.Table.{Method}
use Rattle.kr_mean.specs.declared.kind.Kind.{Kind}
use Rattle.kr_mean.specs.declared.kind.Kind.TheVariants as kinds
use Rattle.kr_mean.specs.declared.kind.Verdict.{Verdict}
use Rattle.kr_mean.specs.declared.kind.Verdict.TheVariants as verdicts
use Rattle.kr_mean.specs.Code.{Node}
use Rattle.kr_mean.specs.Problem.{Problem}
use Rattle.kr_mean.specs.Program.{Program}
use Rattle.kr_mean.specs.Runs.{conditions, rep_ok_node, tested_method}
use Rattle.kr_mean.specs.Steps.{State}
use Rattle.kr_mean.specs.Heaps.{heap_of}
use Rattle.kr_mean.specs.Verdicts.{test_start, verdict_by, verdict_from, verdict_with}
use Rattle.kr_code.specs.Doing.{Doing, IsMeaning}
use Rattle.kr_code.specs.Resolved.{Numbering}
use Rattle.kr_code_laws.specs.Laws.{doing_of}
use Rattle.kr_code_laws.proofs.Resolved.{is_run_by}
use Rattle.kr_space_layout.specs.Bounds.{Bounds, bare, problem_with}
use Rattle.kr_judge.specs.Predicates.{IsPredicateOf}
use Rattle.kr_judge_prepared.specs.Tested.{IsCodeFor, IsTestedBy}
use Rattle.kr_judge_prepared.specs.declared.contract.Contract.{Contract}
use Rattle.kr_judge_prepared.specs.declared.contract.ProblemCode.{ProblemCode}
use Rattle.kr_contract.specs.Tests.{verdict_at}
use Rattle.kr_contract.proofs.Programs.{verdict_same}

-- ---- verdicts by numbers: two that have the same are one

kind_numbers : Kind → List ℕ
kind_numbers kinds.NullPointerException = 0 ∷ []
kind_numbers kinds.ArithmeticException = 1 ∷ []
kind_numbers kinds.ArrayIndexOutOfBoundsException = 2 ∷ []
kind_numbers kinds.NegativeArraySizeException = 3 ∷ []
kind_numbers kinds.ClassCastException = 4 ∷ []
kind_numbers kinds.NoSuchElementException = 5 ∷ []
kind_numbers kinds.NoReturn = 6 ∷ []
kind_numbers kinds.ArrayTooLong = 7 ∷ []
kind_numbers (kinds.Thrown c) = 8 ∷ c ∷ []

leading : List ℕ → ℕ
leading [] = 0
leading (n ∷ ns) = n

kind_of : List ℕ → Kind
kind_of [] = kinds.NoReturn
kind_of (n ∷ ns) =
    if nat_eq n 0 then kinds.NullPointerException
    else if nat_eq n 1 then kinds.ArithmeticException
    else if nat_eq n 2 then kinds.ArrayIndexOutOfBoundsException
    else if nat_eq n 3 then kinds.NegativeArraySizeException
    else if nat_eq n 4 then kinds.ClassCastException
    else if nat_eq n 5 then kinds.NoSuchElementException
    else if nat_eq n 6 then kinds.NoReturn
    else if nat_eq n 7 then kinds.ArrayTooLong
    else kinds.Thrown (leading ns)

kind_back : (k : Kind) → kind_of (kind_numbers k) ≡ k
unfolding kind_numbers kind_of leading
kind_back kinds.NullPointerException = refl
kind_back kinds.ArithmeticException = refl
kind_back kinds.ArrayIndexOutOfBoundsException = refl
kind_back kinds.NegativeArraySizeException = refl
kind_back kinds.ClassCastException = refl
kind_back kinds.NoSuchElementException = refl
kind_back kinds.NoReturn = refl
kind_back kinds.ArrayTooLong = refl
kind_back (kinds.Thrown c) = refl

numbers_of : Option Verdict → List ℕ
numbers_of None = []
numbers_of (Some verdicts.Pass) = 0 ∷ []
numbers_of (Some (verdicts.Ensures n)) = 1 ∷ n ∷ []
numbers_of (Some verdicts.RepOk) = 2 ∷ []
numbers_of (Some (verdicts.Trap k)) = 3 ∷ kind_numbers k
numbers_of (Some (verdicts.CheckTrap k)) = 4 ∷ kind_numbers k
numbers_of (Some verdicts.Spent) = 5 ∷ []
numbers_of (Some (verdicts.Signals n)) = 6 ∷ n ∷ []

verdict_numbered : List ℕ → Option Verdict
verdict_numbered [] = None
verdict_numbered (k ∷ ns) =
    if nat_eq k 0 then Some verdicts.Pass
    else if nat_eq k 1 then Some (verdicts.Ensures (leading ns))
    else if nat_eq k 2 then Some verdicts.RepOk
    else if nat_eq k 3 then Some (verdicts.Trap (kind_of ns))
    else if nat_eq k 4 then Some (verdicts.CheckTrap (kind_of ns))
    else if nat_eq k 5 then Some verdicts.Spent
    else Some (verdicts.Signals (leading ns))

verdict_back : (v : Option Verdict) → verdict_numbered (numbers_of v) ≡ v
unfolding numbers_of verdict_numbered leading
verdict_back None = refl
verdict_back (Some verdicts.Pass) = refl
verdict_back (Some (verdicts.Ensures n)) = refl
verdict_back (Some verdicts.RepOk) = refl
verdict_back (Some (verdicts.Trap k)) = ap (λ (x : Kind). Some (verdicts.Trap x)) (kind_back k)
verdict_back (Some (verdicts.CheckTrap k)) = ap (λ (x : Kind). Some (verdicts.CheckTrap x)) (kind_back k)
verdict_back (Some verdicts.Spent) = refl
verdict_back (Some (verdicts.Signals n)) = refl

by_numbers : (u v : Option Verdict) → numbers_of u ≡ numbers_of v → u ≡ v
by_numbers u v e = sym (verdict_back u) ∙ (ap verdict_numbered e ∙ verdict_back v)

-- ---- where a test begins

begun_same : (program : Program) (b : Bounds) (v : List ℕ) (fuel : ℕ) → test_start (bare b) v fuel ≡ test_start (problem_with program b) v fuel
unfolding heap_of
begun_same program b v fuel = refl

pub begun_laid : (problem : Problem) (b : Bounds) (v : List ℕ) (fuel : ℕ) → problem ≡ problem_with problem.program b → test_start (bare b) v fuel ≡ test_start problem v fuel
begun_laid problem b v fuel laid = begun_same problem.program b v fuel ∙ ap (λ (p : Problem). test_start p v fuel) (sym laid)

-- ---- verdicts

module _ (problem : Problem) (made : ProblemCode) (is : IsCodeFor problem made) (v : List ℕ) (fuel : ℕ) where
  -- where nothing is tested
  pub untested : made.contract ≡ None → None ≡ verdict_with problem v fuel
  untested none = by_numbers None (verdict_with problem v fuel) (∥∥₁_elim is (Prim.hlevel props) (λ p. ap numbers_of (go p.0 (tested_method problem problem.mode) (subst (λ (c : Option Contract). IsTestedBy problem.program made.predicate.code p.0 (tested_method problem problem.mode) c) none p.2))))
    where
      go : (n : Numbering) (x : Option Method) → IsTestedBy problem.program made.predicate.code n x None → None ≡ verdict_by problem v fuel x
      go n None h = refl
      go n (Some m) h = absurd h

  -- the code's meaning in every meaning of it, with the node of the predicate's first condition
  tested : (contract : Contract) (root : ℕ) (verdict : Verdict) (start : State) → made.contract ≡ Some contract → start ≡ test_start problem v fuel
      → ((n : Numbering) (e : Node) (es : List Node) → map n.origin made.predicate.conditions.items ≡ e ∷ es → n.origin root ≡ e)
      → ((d : Doing) → IsMeaning made.predicate.code d → verdict ≡ verdict_at made.predicate.code d root contract start) → Some verdict ≡ verdict_with problem v fuel
  tested contract root verdict start some begun first means = by_numbers (Some verdict) (verdict_with problem v fuel) (∥∥₁_elim is (Prim.hlevel props) (λ p. ap numbers_of (go p.0 p.1 (tested_method problem problem.mode) (subst (λ (c : Option Contract). IsTestedBy problem.program made.predicate.code p.0 (tested_method problem problem.mode) c) some p.2))))
    where
      go : (n : Numbering) → IsPredicateOf problem made.predicate n → (x : Option Method) → IsTestedBy problem.program made.predicate.code n x (Some contract) → Some verdict ≡ verdict_by problem v fuel x
      go n p None h = absurd h
      go n p (Some m) h =
          let node = first n (rep_ok_node problem) _ p.conditions in
          ap (λ (x : Verdict). Some x) (means (doing_of problem.program n) (is_run_by problem.program made.predicate.code n p.code).meaning
          ∙ verdict_same problem made.predicate.code n m root contract p.code node h start
          ∙ ap (verdict_from problem m) begun)

  -- where there was memory
  pub all_tested : (contract : Contract) (root : ℕ) (start : State) (r : Result Verdict NoMemory) → made.contract ≡ Some contract → start ≡ test_start problem v fuel
      → ((n : Numbering) (e : Node) (es : List Node) → map n.origin made.predicate.conditions.items ≡ e ∷ es → n.origin root ≡ e)
      → IfOk r (λ verdict. (d : Doing) → IsMeaning made.predicate.code d → verdict ≡ verdict_at made.predicate.code d root contract start) → IfOk r (λ verdict. Some verdict ≡ verdict_with problem v fuel)
  all_tested contract root start (Ok verdict) some begun first means = tested contract root verdict start some begun first means
  all_tested contract root start (Err why) some begun first means = tt
