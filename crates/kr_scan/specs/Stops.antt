-- Between crates: how a walk over entries stops, and what it has then.
use Rattle.std.specs.Prelude.{◌≡◌, ℕ, List, Bool, true, false, Some, Result, Ok, Err}
use Rattle.kr_base.specs.declared.span.Bound.{Bound}
use Rattle.kr_base.specs.declared.span.Bound.TheVariants.{At}
use Rattle.kr_base.specs.declared.entry.Entry.{Entry}
use Rattle.kr_step.specs.declared.candidates.Ending.{Ending}
use Rattle.kr_step.specs.declared.candidates.Ending.TheVariants as ends
use Rattle.kr_survey.specs.Scans.{IsScan}
use Rattle.kr_survey.specs.declared.taker.End.{End as RowsEnd}
use Rattle.kr_survey.specs.declared.taker.End.TheVariants.{Whole}
use Rattle.kr_survey.specs.declared.taker.Halt.{Halt}
use Rattle.kr_survey.specs.declared.taker.Halt.TheVariants.{Sink, Memory}
use Rattle.kr_scan.specs.declared.batch.Stop.{Stop}
use Rattle.kr_scan.specs.declared.batch.Stop.TheVariants.{End, Full, Spent}

abbrev pub IsSpent : Ending → Bool → Type 0
IsSpent ending true = ending ≡ ends.Spent
IsSpent ending false = ending ≡ ends.Spent → ⊥

-- how far it came: to the bound, or to the entry at which it stopped
abbrev pub reach_at : Stop → List ℕ → Bound → Bound
reach_at End key upto = upto
reach_at Full key upto = At key
reach_at Spent key upto = At key

abbrev pub says_spent : Stop → Bool
says_spent End = false
says_spent Full = false
says_spent Spent = true

-- what it has is the part that a scan gives
abbrev pub Gathers : {R : Type 0} → List (Entry R) → List ℕ → Bound → ℕ → Stop → List ℕ → List R → ℕ → Type 0
Gathers all after upto most stop key rows tried = IsScan all after upto most (record { reach = reach_at stop key upto; rows = rows; tried = tried; spent = says_spent stop })

-- the rows end at a spent entry, or memory is refused
abbrev pub EndsAt : ℕ → List ℕ → Result RowsEnd Halt → Type 0
EndsAt tried key (Ok end) = end ≡ Whole tried (Some key)
EndsAt tried key (Err (Memory why)) = Unit {0}
EndsAt tried key (Err Sink) = ⊥
