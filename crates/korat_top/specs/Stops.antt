-- Between crates: what is put where a command has no problem.
use Rattle.std.specs.Prelude.{◌≡◌, ℕ, ◌⊎◌, List, Option}
use Rattle.kr_base.specs.Told.{Added, Stopped}
use Rattle.kr_report.specs.Texts.{memory_text, read_fault_text}
use Rattle.korat_top_files.specs.Refusals.{Inputs, line_of, name_of, refusal_of, status_of_file}
use Rattle.korat_top_files.specs.declared.refusal.InputFile.{InputFile}
use Rattle.korat_top_files.specs.declared.refusal.InputFile.TheVariants.{Finitization}
use Rattle.korat_top_files.specs.declared.refusal.Stop.{Stop}
use Rattle.korat_top_files.specs.declared.refusal.Stop.TheVariants.{Read, Refused, Memory}

-- the file that a stop names, if it names one
abbrev pub stop_file : Stop → InputFile
stop_file (Refused refusal) = (refusal_of refusal).file
stop_file (Read file) = file
stop_file (Memory why) = Finitization

abbrev pub stop_text : Inputs → Stop → List ℕ
stop_text inputs (Refused refusal) = line_of inputs (refusal_of refusal)
stop_text inputs (Read file) = read_fault_text (name_of inputs file)
stop_text inputs (Memory why) = memory_text

abbrev pub stop_status : Stop → ℕ
stop_status (Refused refusal) = status_of_file (refusal_of refusal).file
stop_status (Read file) = 6
stop_status (Memory why) = 8

-- all of a text, and then a status; or a front of it at a fault, and then 7
abbrev pub PutsText : {K : Type 0} → (K → Option (List ℕ)) → (K → ℕ) → List ℕ → ℕ → K → K → ℕ → Type 0
PutsText taken faults text known out out' status = ((status ≡ known) × Added taken faults out out' text) ⊎ ((status ≡ 7) × Stopped taken faults out out' text)
