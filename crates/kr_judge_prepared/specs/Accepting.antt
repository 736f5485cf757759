-- Between crates: what holds of a problem that breaks no rule.
use Rattle.std.specs.Prelude.{◌≤◌, length, All}
use Rattle.kr_ast.specs.Arena.{root}
use Rattle.kr_laws_types.specs.Derivation.{AreClasses}
use Rattle.kr_mean.specs.Problem.{slots}
use Rattle.kr_mean.specs.Purity.{IsPure}
use Rattle.kr_mean.specs.WellFormed.{IsWellFormed}
use Rattle.kr_space_problem.specs.declared.problem.Problem.{Problem}
use Rattle.kr_space_problem.specs.Posed as posing
use Rattle.kr_space_problem.specs.Posed.{IsPosed}
use Rattle.kr_space_problem.specs.declared.subject.Subject.{Subject}
use Rattle.kr_space_problem.specs.Subjects.{IsSubject}

-- Its files are classes by their shapes, and break no rule; it is well formed, and its predicate leaves the candidates
-- alone; there are not too many slots.
pub record IsAccepted (p : Problem) : Type 0 where
  pub shaped : All (λ a. AreClasses (root a)) p.program.trees.items
  pub posed : IsPosed p
  pub well_formed : IsWellFormed (posing.posed p)
  pub pure : IsPure (posing.posed p)
  pub small : length (slots (posing.posed p)) ≤ 4096

-- and this is its subject
pub record IsAcceptedWith (p : Problem) (s : Subject) : Type 0 where
  pub accepted : IsAccepted p
  pub subject : IsSubject p s
