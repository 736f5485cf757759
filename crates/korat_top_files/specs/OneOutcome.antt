-- Between crates: the steps have one outcome.
use Rattle.std.specs.Prelude.{◌≡◌, ℕ, List, Result}
use Rattle.kr_mean.specs.declared.mode.Mode.{Mode}
use Rattle.korat_top_files.specs.Refusals.{Inputs, Refusal}
use Rattle.korat_top_files.specs.Steps.{Judges, Checks}
use Rattle.kr_io.specs.Held.{Held}
use Rattle.korat_top_files.specs.Upgrades.{Carries}
use Rattle.korat_top_files.specs.Builds.{Builds}

abbrev pub HasOne : {A : Type 0} → (Result A Refusal → Type 0) → Type 0
HasOne {A} outcome = (x y : Result A Refusal) → outcome x → outcome y → x ≡ y

-- those over texts, and those over files; those of an upgrade, and those of builders
pub record OneOutcome : Type 0 where
  pub judging : (mode : Mode) (fin : List ℕ) (sources : List (List ℕ)) → HasOne (Judges mode fin sources)
  pub checking : (held : Held) (mode : Mode) (inputs : Inputs) → HasOne (Checks held mode inputs)
  pub carrying : (held : Held) (fin : List ℕ) → HasOne (Carries held fin)
  pub building : (held : Held) (inputs : Inputs) → HasOne (Builds held inputs)
