-- The code of a problem runs its predicate, and has a contract exactly where a method is tested.
use Rattle.std.proofs.Common.{◌≡◌, refl}
use Rattle.std.specs.Prelude.{Option, Some, None, is_some}
use Rattle.std.proofs.Math.Logic.{∥∥₁_elim}
use Rattle.std.proofs.Props.{props}
use Rattle.kr_classes_table.specs.Table.{Method}
use Rattle.kr_code.specs.declared.code.Code.{Code}
use Rattle.kr_code.specs.Resolved.{Numbering}
use Rattle.kr_mean.specs.Problem.{Problem}
use Rattle.kr_mean.specs.Program.{Program}
use Rattle.kr_mean.specs.Runs.{tested_method}
use Rattle.kr_judge_prepared.specs.Tested.{IsCodeFor, IsTestedBy}
use Rattle.kr_judge_prepared.specs.Preparing.{IsRunBy}
use Rattle.kr_judge_prepared.specs.declared.contract.Contract.{Contract}
use Rattle.kr_judge_prepared.specs.declared.contract.ProblemCode.{ProblemCode}

pub run_by : (problem : Problem) (made : ProblemCode) → IsCodeFor problem made → IsRunBy problem made.predicate
run_by problem made h = ∥∥₁_elim h (Prim.hlevel props) (λ p. ∣ (p.0, p.1) ∣₁)

both_or_none : (program : Program) (code : Code) (n : Numbering) (m : Option Method) (contract : Option Contract) → IsTestedBy program code n m contract → is_some contract ≡ is_some m
both_or_none program code n None None h = refl
both_or_none program code n (Some m) (Some contract) h = refl
both_or_none program code n None (Some contract) h = absurd h
both_or_none program code n (Some m) None h = absurd h

pub tested_by : (problem : Problem) (made : ProblemCode) → IsCodeFor problem made → is_some made.contract ≡ is_some (tested_method problem problem.mode)
tested_by problem made h = ∥∥₁_elim h (Prim.hlevel props) (λ p. both_or_none problem.program made.predicate.code p.0 (tested_method problem problem.mode) made.contract p.2)
