-- Between crates: what the work for a command finds, before anything is written.
use Rattle.std.specs.Prelude.{ℕ, List, Option, Some, Result, Ok, Err}
use Rattle.kr_args.specs.declared.forms.Command.{Command}
use Rattle.kr_space_problem.specs.Posed.{posed}
use Rattle.kr_space_problem.specs.declared.problem.Problem.{Problem}
use Rattle.korat_top_files.specs.Refusals.{name_of, refusal_of}
use Rattle.kr_io.specs.Held.{Held}
use Rattle.korat_top_files.specs.Found.{FailsToRead}
use Rattle.korat_top_files.specs.declared.refusal.Stop.{Stop}
use Rattle.korat_top_files.specs.declared.refusal.Stop.TheVariants.{Read, Refused, Memory}
use Rattle.korat_top.specs.Answer.{IsTold, ReadsFor, inputs_of, steps_of}

-- what the steps of a command say of what the files hold, where it is known; or a read fault; or out of memory, which is always allowed
abbrev pub Finds : {F : Type 0} → (F → Held) → (F → ℕ) → (F → Option (List ℕ)) → Command → F → F → Result Problem Stop → Type 0
Finds held faults last command files files' (Ok f) = IsTold (held files) (Some command) → steps_of (held files) command (Ok (posed f))
Finds held faults last command files files' (Err (Refused r)) = IsTold (held files) (Some command) → steps_of (held files) command (Err (refusal_of r))
Finds held faults last command files files' (Err (Read failed)) = FailsToRead faults last (ReadsFor (held files) command) (name_of (inputs_of command) failed) files files'
Finds held faults last command files files' (Err (Memory why)) = Unit {0}
