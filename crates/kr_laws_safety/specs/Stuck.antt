-- Between crates: no run of a typed program is stuck.
use Rattle.std.specs.Prelude.{◌≡◌, ℕ, List, Some}
use Rattle.kr_classes_table.specs.Table.{Method}
use Rattle.kr_mean.specs.Program.{Program}
use Rattle.kr_mean.specs.Meaning.{value, execute}
use Rattle.kr_mean.specs.Problem.{Problem}
use Rattle.kr_mean.specs.Runs.{tested_method, IsStuck}
use Rattle.kr_mean.specs.Verdicts.{test_start}
use Rattle.kr_mean.specs.Space.{space_of, IsVector}
use Rattle.kr_mean.specs.WellFormed.{IsWellFormed}
use Rattle.kr_laws_safety.specs.Domains.{HaveDomainsTypes}
use Rattle.kr_laws_safety.specs.Triples.{Fixed}
use Rattle.kr_laws_safety.specs.Typed.{IsTypedProgram}
use Rattle.kr_laws_safety.specs.Claims.{ValuesSafe, StatementsSafe}
use Rattle.kr_laws_safety.specs.Tested.{HasContracts, IsTestable}

-- Code without broken nodes, in states of its types: expressions give values of the types that they are used as, statements lead
-- on as they may, and neither is stuck.
pub record IsSafe (program : Program) (fixed : Fixed) : Type 0 where
  pub values : ValuesSafe program fixed (value program)
  pub statements : StatementsSafe program fixed (execute program)

abbrev pub CodeLaw : Type 0
CodeLaw = (program : Program) (fixed : Fixed) → IsTypedProgram program → IsSafe program fixed

-- On no candidate is the predicate stuck, or a precondition.
abbrev pub CandidatesLaw : Type 0
CandidatesLaw = (problem : Problem) → IsTypedProgram problem.program → HasContracts problem → IsWellFormed problem → HaveDomainsTypes problem → (vector : List ℕ) → IsVector (space_of problem) vector → IsStuck problem vector → ⊥

-- On no candidate is a test of a method stuck, whatever its fuel: neither an `\old`, nor the body, nor the predicate after it,
-- nor a postcondition, nor a `signals` clause that fits; and each of the last three gives a truth value, where it gives a value.
abbrev pub TestsLaw : Type 0
TestsLaw = (problem : Problem) → IsTypedProgram problem.program → HasContracts problem → IsWellFormed problem → HaveDomainsTypes problem → (vector : List ℕ) → IsVector (space_of problem) vector
    → (m : Method) → tested_method problem problem.mode ≡ Some m → (fuel : ℕ) → IsTestable problem m (test_start problem vector fuel)
