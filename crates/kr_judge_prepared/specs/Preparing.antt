-- Between crates: what holds of a problem that is searched and written.
use Rattle.std.specs.Prelude.{List, Option}
use Rattle.kr_mean.specs.Problem as problems
use Rattle.kr_classes_members.specs.declared.fields.Field.{Field}
use Rattle.kr_code.specs.Resolved.{Numbering}
use Rattle.kr_judge.specs.Predicates.{IsPredicateOf}
use Rattle.kr_judge.specs.declared.predicate.Predicate.{Predicate}
use Rattle.kr_space_problem.specs.declared.problem.Problem.{Problem}
use Rattle.kr_space_problem.specs.Posed.{posed}
use Rattle.kr_judge_prepared.specs.declared.contract.Contract.{Contract}
use Rattle.kr_judge_prepared.specs.declared.contract.ProblemCode.{ProblemCode}
use Rattle.kr_judge_prepared.specs.Tested.{IsCodeFor}
use Rattle.kr_judge_prepared.specs.Fields.{AreFieldsOf}

-- the code runs the problem's predicate, in some numbering of the program's names, methods, types and nodes
abbrev pub IsRunBy : problems.Problem → Predicate → Type 0
IsRunBy problem predicate = ∥ ((n : Numbering) × IsPredicateOf problem predicate n) ∥₁

-- A problem, with the code of its predicate, and the contract of its method under test.
pub record Ready : Type 0 where
  pub problem : Problem
  pub predicate : Predicate
  pub contract : Option Contract

-- The code is its, and the fields are those of its classes.
pub record IsPrepared (p : Problem) (code : ProblemCode) (rows : List (List Field)) : Type 0 where
  pub made : IsCodeFor (posed p) code
  pub fields : AreFieldsOf p.program.trees.items rows
