-- What one worker serves, by the words' command.
use Rattle.std.proofs.Common.{◌≡◌, ◌⊎◌, ℕ, subst, inl, inr}
use Rattle.std.specs.Prelude.{Option, Some, Result, Ok, Err, is_ok, if◌then◌else◌}
use Rattle.kr_args.specs.Sources.{HasSources}
use Rattle.kr_args.specs.Workers.{HasWorkers}
use Rattle.kr_args.specs.declared.forms.Command.{Command}
use Rattle.kr_args.specs.declared.forms.Command.TheVariants as commands
use Rattle.korat_top.specs.Ends.{EndsFor, IsComplete, Outside}
use Rattle.korat_top.specs.OneWorker.{IfEnded, IfShared, IsLeft, IsWithin}
use Rattle.korat_top.specs.declared.alone.Alone.{Alone}
use Rattle.korat_top.specs.declared.alone.Alone.TheVariants.{Ended, Shared}
use Rattle.korat_top.proofs.Calls.{complete}

-- an end that is one by the headline is complete
pub complete_ends : (asked : Option Command) (before after : Outside) (alone : Alone) → IfEnded alone (EndsFor asked before after) → IfEnded alone (IsComplete asked before after)
complete_ends asked before after (Ended status) h = complete asked before after status h
complete_ends asked before after (Shared search) h = tt

-- a search that is left is the words' own, within the limits of words
pub within_left : {F K : Type 0} (asked : Command) (files files' : F) (out out' : K) (alone : Alone) → HasSources asked → HasWorkers asked → IsLeft (Some asked) files files' out out' alone → IfShared alone IsWithin
within_left asked files files' out out' (Ended status) sources workers left = tt
within_left asked files files' out out' (Shared search) sources workers left =
    let same : asked ≡ commands.Search search = cc (left.0) in
    record { sources = subst HasSources same sources; workers = subst HasWorkers same workers }

-- the status where out of memory is all that is said
pub memory_status : {T E : Type 0} (status : ℕ) (r : Result T E) → status ≡ (if is_ok r then 8 else 7) → (status ≡ 8) ⊎ (status ≡ 7)
memory_status status (Ok x) e = inl e
memory_status status (Err x) e = inr e
