-- What was found for a command, and the statuses of refusals.
use Rattle.std.proofs.Common.{◌≡◌, ◌∙◌, ℕ, List, [], ◌∷◌, ap, arith, inl, refl, subst, sym}
use Rattle.std.specs.Prelude.{Some, Option, Result, Ok, Err}
use Rattle.kr_mean.specs.declared.mode.Mode.{Mode}
use Rattle.kr_mean.specs.declared.mode.Mode.TheVariants.{List as Listing, Method as Testing}
use Rattle.kr_args.specs.declared.forms.Ask.{Ask}
use Rattle.kr_args.specs.declared.forms.Command.{Command}
use Rattle.kr_args.specs.declared.forms.Command.TheVariants as commands
use Rattle.kr_args.specs.declared.forms.Search.TheVariants as searches
use Rattle.kr_demo.specs.Texts.{source_text, finitization_text}
use Rattle.kr_mean.specs.Problem as means
use Rattle.kr_space_problem.specs.Posed.{posed}
use Rattle.kr_space_problem.specs.declared.problem.Problem.{Problem}
use Rattle.korat_top_files.specs.declared.refusal.InputFile.{InputFile}
use Rattle.korat_top_files.specs.declared.refusal.InputFile.TheVariants as input
use Rattle.korat_top_files.specs.declared.refusal.Stop.{Stop}
use Rattle.korat_top_files.specs.declared.refusal.Stop.TheVariants.{Read, Refused, Memory}
use Rattle.korat_top_files.specs.Refusals.{Inputs, Refusal, files_of, name_of, refusal_of, status_of_file}
use Rattle.korat_top_files.specs.Steps.{Checks, Reads, AllTold}
use Rattle.kr_io.specs.Held.{Held}
use Rattle.korat_top_files.specs.Chains.{from_texts}
use Rattle.korat_top.specs.Answer.{IsTold, ReadsFor, inputs_of, steps_of}
use Rattle.korat_top_files.specs.Found.{FindsIn, Meets}
use Rattle.korat_top_files.specs.Upgrades.{FindsUpgrade}
use Rattle.korat_top_files.specs.Builds.{FindsBuilds}
use Rattle.korat_top.specs.Ends.{IsGiven}
use Rattle.korat_top.specs.Found.{Finds}
use Rattle.korat_top_files.proofs.Chained.{to_checks, to_judges}

-- a refusal ends with 3 or 4
pub refused_low : (file : InputFile) → IsGiven (status_of_file file)
refused_low input.Finitization = inl (omega arith)
refused_low (input.Source n) = inl (omega arith)

pub refused_no_usage : (file : InputFile) → status_of_file file ≡ 2 → ⊥
refused_no_usage input.Finitization e = omega (arith, e)
refused_no_usage (input.Source n) e = omega (arith, e)

-- ---- by commands

-- what files give, by the steps read top down
pub checks_found : {F : Type 0} (held : F → Held) (faults : F → ℕ) (last : F → Option (List ℕ)) (command : Command) (mode : Mode) (inputs : Inputs) (files files' : F) (r : Result Problem Stop)
    → ((x : Result means.Problem Refusal) → Checks (held files) mode inputs x → steps_of (held files) command x)
    → (IsTold (held files) (Some command) → AllTold (held files) inputs)
    → ((file : List ℕ) → Reads (held files) inputs file → ReadsFor (held files) command file) → inputs_of command ≡ inputs
    → FindsIn held faults last mode inputs files files' r → Finds held faults last command files files' r
checks_found held faults last command mode inputs files files' (Ok f) steps told reads is h = λ t. steps (Ok (posed f)) (to_checks (held files) mode inputs (Ok (posed f)) (h (told t)))
checks_found held faults last command mode inputs files files' (Err (Refused x)) steps told reads is h = λ t. steps (Err (refusal_of x)) (to_checks (held files) mode inputs (Err (refusal_of x)) (h (told t)))
checks_found held faults last command mode inputs files files' (Err (Read failed)) steps told reads is h =
    let name = subst (λ (i : Inputs). name_of i failed ≡ name_of inputs failed) (sym is) refl in
    record {
      read = subst (ReadsFor (held files) command) (sym name) (reads (name_of inputs failed) h.read);
      named = h.named ∙ ap Some (sym name);
      cause = h.cause;
    }
checks_found held faults last command mode inputs files files' (Err (Memory why)) steps told reads is h = tt

pub list_found : {F : Type 0} (held : F → Held) (faults : F → ℕ) (last : F → Option (List ℕ)) (ask : Ask) (files files' : F) (r : Result Problem Stop)
    → FindsIn held faults last Listing (files_of ask.fin ask.sources) files files' r → Finds held faults last (commands.Search (searches.List ask)) files files' r
list_found held faults last ask files files' r h =
    checks_found held faults last (commands.Search (searches.List ask)) Listing (files_of ask.fin ask.sources) files files' r (λ x c. c) (λ t. t) (λ file s. s) refl h

pub shard_found : {F : Type 0} (held : F → Held) (faults : F → ℕ) (last : F → Option (List ℕ)) (ask : Ask) (files files' : F) (r : Result Problem Stop)
    → FindsIn held faults last Listing (files_of ask.fin ask.sources) files files' r → Finds held faults last (commands.Search (searches.Shard ask)) files files' r
shard_found held faults last ask files files' r h =
    checks_found held faults last (commands.Search (searches.Shard ask)) Listing (files_of ask.fin ask.sources) files files' r (λ x c. c) (λ t. t) (λ file s. s) refl h

-- the steps of builders give what the command's do
pub emit_found : {F : Type 0} (held : F → Held) (faults : F → ℕ) (last : F → Option (List ℕ)) (ask : Ask) (files files' : F) (r : Result Problem Stop)
    → FindsBuilds held faults last (files_of ask.fin ask.sources) files files' r → Finds held faults last (commands.Search (searches.Emit ask)) files files' r
emit_found held faults last ask files files' (Ok f) h = h
emit_found held faults last ask files files' (Err (Refused x)) h = h
emit_found held faults last ask files files' (Err (Read failed)) h = h
emit_found held faults last ask files files' (Err (Memory why)) h = tt

pub test_found : {F : Type 0} (held : F → Held) (faults : F → ℕ) (last : F → Option (List ℕ)) (method : List ℕ) (ask : Ask) (files files' : F) (r : Result Problem Stop)
    → FindsIn held faults last (Testing method) (files_of ask.fin ask.sources) files files' r → Finds held faults last (commands.Search (searches.Test method ask)) files files' r
test_found held faults last method ask files files' r h =
    checks_found held faults last (commands.Search (searches.Test method ask)) (Testing method) (files_of ask.fin ask.sources) files files' r (λ x c. c) (λ t. t) (λ file s. s) refl h

pub check_found : {F : Type 0} (held : F → Held) (faults : F → ℕ) (last : F → Option (List ℕ)) (fin : List ℕ) (sources : List (List ℕ)) (files files' : F) (r : Result Problem Stop)
    → FindsIn held faults last Listing (files_of fin sources) files files' r → Finds held faults last (commands.Check fin sources) files files' r
check_found held faults last fin sources files files' r h =
    checks_found held faults last (commands.Check fin sources) Listing (files_of fin sources) files files' r (λ x c. c) (λ t. t) (λ file s. s) refl h

-- the demo's texts have the steps of files
pub demo_found : {F : Type 0} (held : F → Held) (faults : F → ℕ) (last : F → Option (List ℕ)) (n workers : ℕ) (files files' : F) (r : Result Problem Stop)
    → Meets (from_texts Listing (finitization_text n) (source_text n ∷ [])) posed r → Finds held faults last (commands.Search (searches.Demo n workers)) files files' r
demo_found held faults last n workers files files' (Ok f) h = λ t. to_judges Listing (finitization_text n) (source_text n ∷ []) (Ok (posed f)) h
demo_found held faults last n workers files files' (Err (Refused x)) h = λ t. to_judges Listing (finitization_text n) (source_text n ∷ []) (Err (refusal_of x)) h
demo_found held faults last n workers files files' (Err (Read failed)) h = absurd h
demo_found held faults last n workers files files' (Err (Memory why)) h = tt

-- what a finitization alone is refused with
pub upgrade_found : {F : Type 0} (held : F → Held) (faults : F → ℕ) (last : F → Option (List ℕ)) (fin : List ℕ) (files files' : F) (stop : Stop)
    → FindsUpgrade held faults last fin files files' (Err stop) → Finds held faults last (commands.Upgrade fin) files files' (Err stop)
upgrade_found held faults last fin files files' (Refused r) h = h
upgrade_found held faults last fin files files' (Read failed) h = record { read = h.read; named = h.named; cause = h.cause }
upgrade_found held faults last fin files files' (Memory why) h = tt
