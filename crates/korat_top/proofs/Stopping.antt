-- How a call ends whose command has no problem.
use Rattle.std.proofs.Common.{◌≡◌, ℕ, List, inl, inr, refl}
use Rattle.std.specs.Prelude.{Option, Some, None, Result, Ok, Err, is_ok, if◌then◌else◌}
use Rattle.kr_base.specs.Told.{Writes}
use Rattle.kr_args.specs.declared.forms.Command.{Command}
use Rattle.kr_space_problem.specs.declared.problem.Problem.{Problem}
use Rattle.korat_top_files.specs.Found.{CountStays}
use Rattle.korat_top_files.specs.Refusals.{name_of, refusal_of}
use Rattle.kr_io.specs.Held.{Held}
use Rattle.korat_top_files.specs.declared.refusal.Stop.{Stop}
use Rattle.korat_top_files.specs.declared.refusal.Stop.TheVariants.{Read, Refused, Memory}
use Rattle.korat_top.specs.Answer.{inputs_of, refusal_answer, refused}
use Rattle.korat_top.specs.Ends.{EndsFor, Outside, seen}
use Rattle.korat_top.specs.Found.{Finds}
use Rattle.korat_top.specs.Stops.{PutsText, stop_status, stop_text}
use Rattle.korat_top.proofs.Answered.{refused_low, refused_no_usage}
use Rattle.korat_top.proofs.Calls.{put_answer, put_memory, put_read_fault, writes_seen}

-- a text that was put, by its result
pub puts_text : {K T E : Type 0} (taken : K → Option (List ℕ)) (faults : K → ℕ) (a b : K) (text : List ℕ) (known status : ℕ) (r : Result T E) → Writes taken faults a b text r → status ≡ (if is_ok r then known else 7)
    → PutsText taken faults text known a b status
puts_text taken faults a b text known status (Ok v) x e = inl (e, x)
puts_text taken faults a b text known status (Err v) x e = inr (e, x)

wrote : {K : Type 0} (taken : K → Option (List ℕ)) (faults : K → ℕ) (a b : K) (text : List ℕ) (known status : ℕ) → PutsText taken faults text known a b status
    → (r : Result (Unit {0}) (Unit {0})) × Writes taken faults a b text r × (status ≡ (if is_ok r then known else 7))
wrote taken faults a b text known status (inl p) = (Ok tt, p.1, p.0)
wrote taken faults a b text known status (inr p) = (Err tt, p.1, p.0)

pub stop_ends : {F K : Type 0} (held : F → Held) (read_faults : F → ℕ) (last : F → Option (List ℕ)) (taken : K → Option (List ℕ)) (faults : K → ℕ) (command : Command) (files files' : F) (out out' : K) (status : ℕ) (stop : Stop)
    → Finds held read_faults last command files files' (Err stop) → CountStays {X = Problem} (read_faults files) (read_faults files') (Err stop) → PutsText taken faults (stop_text (inputs_of command) stop) (stop_status stop) out out' status
    → EndsFor (Some command) (seen held read_faults last taken faults files out) (seen held read_faults last taken faults files' out') status
stop_ends held read_faults last taken faults command files files' out out' status (Refused r) found count put =
    let before = seen held read_faults last taken faults files out in
    let after = seen held read_faults last taken faults files' out' in
    let text = stop_text (inputs_of command) (Refused r) in
    let w = wrote taken faults out out' text (stop_status (Refused r)) status put in
    put_answer before after status command (refusal_answer (inputs_of command) (refusal_of r)) w.0 (λ told. refused (refusal_of r) (found told)) (refused_no_usage (refusal_of r).file) (refused_low (refusal_of r).file) count
    (writes_seen held read_faults last taken faults files files' out out' text w.0 w.1) w.2
stop_ends held read_faults last taken faults command files files' out out' status (Read file) found count put =
    let before = seen held read_faults last taken faults files out in
    let after = seen held read_faults last taken faults files' out' in
    let text = stop_text (inputs_of command) (Read file) in
    let w = wrote taken faults out out' text 6 status put in
    put_read_fault before after status command (name_of (inputs_of command) file) w.0 found.read found.named found.cause (writes_seen held read_faults last taken faults files files' out out' text w.0 w.1) w.2
stop_ends held read_faults last taken faults command files files' out out' status (Memory why) found count put =
    let before = seen held read_faults last taken faults files out in
    let after = seen held read_faults last taken faults files' out' in
    let text = stop_text (inputs_of command) (Memory why) in
    let w = wrote taken faults out out' text 8 status put in
    put_memory before after status (Some command) w.0 count (writes_seen held read_faults last taken faults files files' out out' text w.0 w.1) w.2
