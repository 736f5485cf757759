-- Between crates: the contract of a method under test as nodes of code.
use Rattle.std.specs.Prelude.{◌≡◌, ℕ, ◌+◌, List, [], ◌∷◌, map, Option, Some, None}
use Rattle.kr_classes_table.specs.Table.{Method}
use Rattle.kr_code.specs.declared.code.Code.{Code}
use Rattle.kr_code.specs.Resolved.{Numbering, IsMethod}
use Rattle.kr_mean.specs.Problem.{Problem}
use Rattle.kr_mean.specs.Program.{Program}
use Rattle.kr_mean.specs.Runs.{ensures_of, tested_method}
use Rattle.kr_mean.specs.Verdicts.{OldNode, Signal, olds_of, signals_of}
use Rattle.kr_judge.specs.Predicates.{IsPredicateOf}
use Rattle.kr_judge_prepared.specs.declared.contract.Contract.{Contract}
use Rattle.kr_judge_prepared.specs.declared.contract.OldCode.{OldCode}
use Rattle.kr_judge_prepared.specs.declared.contract.SignalCode.{SignalCode}
use Rattle.kr_judge_prepared.specs.declared.contract.ProblemCode.{ProblemCode}

-- the `\old` of this code
abbrev pub old_shown : Numbering → OldCode → OldNode
old_shown n o = record { place = o.place; is_named = o.is_named; scope = (n.origin o.operand).scope; tree = (n.origin o.operand).tree }

-- the `signals` of this code, by their numbers from k on
abbrev pub signals_shown : Numbering → ℕ → List SignalCode → List Signal
signals_shown n k [] = []
signals_shown n k (c ∷ cs) = record { number = k; type = n.type c.caught; is_named = c.is_named; condition = n.origin c.condition } ∷ signals_shown n (k + 1) cs

-- The code has the method by this number; the `\old`s are those of its conditions after the body, the nodes its
-- postconditions, and the `signals` its own, in source order.
pub record IsContractOf (program : Program) (code : Code) (n : Numbering) (m : Method) (contract : Contract) : Type 0 where
  pub method : IsMethod code n m contract.method
  pub olds : map (old_shown n) contract.olds.items ≡ olds_of program m
  pub postconditions : map n.origin contract.postconditions.items ≡ ensures_of program m
  pub signals : signals_shown n 1 contract.signals.items ≡ signals_of program m

-- there is a contract exactly where a method is tested
abbrev pub IsTestedBy : Program → Code → Numbering → Option Method → Option Contract → Type 0
IsTestedBy program code n None None = Unit {0}
IsTestedBy program code n (Some m) (Some contract) = IsContractOf program code n m contract
IsTestedBy program code n m contract = ⊥

-- The code runs the problem's predicate and has the contract of its method under test, both in one numbering of the program's
-- names, methods, types and nodes.
abbrev pub IsCodeFor : Problem → ProblemCode → Type 0
IsCodeFor problem made =
    ∥ ((n : Numbering) × IsPredicateOf problem made.predicate n × IsTestedBy problem.program made.predicate.code n (tested_method problem problem.mode) made.contract) ∥₁
