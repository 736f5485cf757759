-- Between crates: what callers see of a runner, and whose predicate it runs.
use Rattle.std.specs.Prelude.{◌≡◌, ℕ, List}
use Rattle.kr_mean.specs.Problem as problems
use Rattle.kr_space_layout.specs.Bounds.{Bounds, problem_with}
use Rattle.kr_judge.specs.declared.predicate.Predicate.{Predicate}
use Rattle.kr_judge_prepared.specs.Preparing.{IsRunBy}
use Rattle.kr_space_problem.specs.declared.problem.Problem.{Problem}

-- The problem, its slots and domains, its predicate's code, the current candidate, and the order of slots of the last run.
pub record Seen : Type 0 where
  pub problem : Problem
  pub bounds : Bounds
  pub predicate : Predicate
  pub vector : List ℕ
  pub order : List ℕ

-- the problem's slots and domains are laid out so, and the code runs its predicate
pub record IsRunOn (problem : problems.Problem) (bounds : Bounds) (predicate : Predicate) : Type 0 where
  pub laid : problem ≡ problem_with problem.program bounds
  pub run : IsRunBy problem predicate
