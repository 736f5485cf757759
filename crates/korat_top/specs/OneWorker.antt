-- To be believed: what one worker serves of a call, and what is left for several.
use Rattle.std.specs.Prelude.{◌≡◌, ◌⊎◌, ℕ, Bool, true, false, not, Option, Some, None}
use Rattle.kr_args.specs.Sources.{SearchesSources}
use Rattle.kr_args.specs.Workers.{SearchesShared}
use Rattle.kr_args.specs.declared.forms.Command.{Command}
use Rattle.kr_args.specs.declared.forms.Command.TheVariants as commands
use Rattle.kr_args.specs.declared.forms.Search.{Search}
use Rattle.korat_top_reports.specs.Reports.{is_alone}
use Rattle.korat_top.specs.Ends.{EndsFor, IsComplete, Outside}
use Rattle.korat_top.specs.declared.alone.Alone.{Alone}
use Rattle.korat_top.specs.declared.alone.Alone.TheVariants.{Ended, Shared}

-- several workers, or a trace, are asked for
abbrev pub asks_several : Option Command → Bool
asks_several None = false
asks_several (Some (commands.Search search)) = not (is_alone search)
asks_several (Some (commands.Check fin sources)) = false
asks_several (Some (commands.Merge files)) = false
asks_several (Some (commands.Upgrade fin)) = false
asks_several (Some (commands.Trace file from to workers)) = false

abbrev pub IfEnded : Alone → (ℕ → Type 0) → Type 0
IfEnded (Ended status) P = P status
IfEnded (Shared search) P = Unit {0}

abbrev pub IfShared : Alone → (Search → Type 0) → Type 0
IfShared (Ended status) P = Unit {0}
IfShared (Shared search) P = P search

-- What is asked for is left exactly where several workers, or a trace, are asked for, and then nothing is read or written; unless
-- memory for the words themselves is refused: then nothing is read, and that is said.
abbrev pub IsLeft : {F K : Type 0} → Option Command → F → F → K → K → Alone → Type 0
IsLeft asked files files' out out' (Ended status) = asks_several asked ≡ true → (files' ≡ files) × ((status ≡ 8) ⊎ (status ≡ 7))
IsLeft asked files files' out out' (Shared search) = (asked ≡ Some (commands.Search search)) × (asks_several asked ≡ true) × (files' ≡ files) × (out' ≡ out)

-- a search as words give it: its sources, workers and window are within their limits
pub record IsWithin (search : Search) : Type 0 where
  pub sources : SearchesSources search
  pub workers : SearchesShared search

-- how one worker serves what is asked for
pub record ServesAlone {F K : Type 0} (see : F → K → Outside) (asked : Option Command) (files files' : F) (out out' : K) (alone : Alone) : Type 0 where
  pub headline : IfEnded alone (λ status. EndsFor asked (see files out) (see files' out') status)
  pub complete : IfEnded alone (λ status. IsComplete asked (see files out) (see files' out') status)
  pub left : IsLeft asked files files' out out' alone
