-- Between crates: code that runs the predicate of a problem.
use Rattle.std.specs.Prelude.{◌≡◌, map}
use Rattle.kr_code.specs.Resolved.{Numbering, IsCodeOf}
use Rattle.kr_mean.specs.Problem.{Problem}
use Rattle.kr_mean.specs.Runs.{conditions}
use Rattle.kr_judge.specs.declared.predicate.Predicate.{Predicate}

-- Code of the problem's program, and the nodes of what has to hold.
pub record IsPredicateOf (problem : Problem) (predicate : Predicate) (n : Numbering) : Type 0 where
  pub code : IsCodeOf problem.program predicate.code n
  pub conditions : map n.origin predicate.conditions.items ≡ conditions problem
