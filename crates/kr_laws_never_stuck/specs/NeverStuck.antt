-- Between crates: no run of what is accepted is stuck.
use Rattle.std.specs.Prelude.{ℕ, List}
use Rattle.kr_mean.specs.declared.mode.Mode.{Mode}
use Rattle.kr_mean.specs.Problem.{Problem}
use Rattle.kr_mean.specs.Space.{space_of, IsVector}
use Rattle.kr_laws_never_stuck.specs.Accepted.{IsAccepted}
use Rattle.kr_laws_never_stuck.specs.WellTyped.{IsNeverStuck}

abbrev pub NeverStuckLaw : Type 0
NeverStuckLaw = (sources : List (List ℕ)) (bytes : List ℕ) (mode : Mode) (problem : Problem) → IsAccepted sources bytes mode problem → (vector : List ℕ) → IsVector (space_of problem) vector → IsNeverStuck problem vector
