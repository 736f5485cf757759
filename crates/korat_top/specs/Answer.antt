-- To be believed: what a call answers over what its files hold.
use Rattle.std.specs.Prelude.{◌≡◌, ℕ, List, [], ◌∷◌, length, Option, Some, None, IsSome, Result, Ok, Err, codes}
use Rattle.kr_base.specs.declared.span.Bound.{Bound}
use Rattle.kr_args.specs.declared.forms.Command.{Command}
use Rattle.kr_args.specs.declared.forms.Command.TheVariants as commands
use Rattle.kr_args.specs.declared.forms.Search.{Search}
use Rattle.kr_args.specs.declared.forms.Search.TheVariants as searches
use Rattle.kr_args.specs.Reading.{command_of}
use Rattle.kr_demo.specs.Texts.{source_text, finitization_text}
use Rattle.kr_mean.specs.declared.mode.Mode.TheVariants.{List as Listing, Method as Testing}
use Rattle.kr_mean.specs.Problem.{Problem}
use Rattle.kr_report.specs.Reports.{Answer, line_answer}
use Rattle.kr_shard.specs.Files.{MergesFiles, ReadsShards}
use Rattle.kr_report.specs.Texts.{usage_text}
use Rattle.kr_trace.specs.Checked.{Checked}
use Rattle.kr_trace.specs.Files.{checked_file, said_of, status_for}
use Rattle.korat_top_files.specs.Refusals.{Inputs, Refusal, files_of, status_of_file, line_of}
use Rattle.korat_top_files.specs.Steps.{Judges, Checks, Reads}
use Rattle.kr_io.specs.Held.{Held}
use Rattle.korat_top_files.specs.Upgrades.{Carries}
use Rattle.korat_top_files.specs.Builds.{Builds}
use Rattle.korat_top_reports.specs.Reports.{Reports, counts_of}

-- ---- commands

-- the command that words give
abbrev pub asked_of : List (List ℕ) → Option Command
asked_of words = command_of words

-- what the texts of the demo are called, where a line names one
abbrev pub demo_inputs : Inputs
demo_inputs = record { fin = codes "demo.toml"; sources = codes "Demo.java" ∷ [] }

-- the files that a search names
abbrev pub searched_inputs : Search → Inputs
searched_inputs (searches.List ask) = files_of ask.fin ask.sources
searched_inputs (searches.Test method ask) = files_of ask.fin ask.sources
searched_inputs (searches.Demo n workers) = demo_inputs
searched_inputs (searches.Shard ask) = files_of ask.fin ask.sources
searched_inputs (searches.Emit ask) = files_of ask.fin ask.sources

-- the files that a command names
abbrev pub inputs_of : Command → Inputs
inputs_of (commands.Search search) = searched_inputs search
inputs_of (commands.Check fin sources) = files_of fin sources
inputs_of (commands.Merge files) = files_of [] []
inputs_of (commands.Upgrade fin) = files_of fin []
inputs_of (commands.Trace file from to workers) = files_of [] []

-- ---- what comes of its files

-- the steps of a search up to its problem: over its files, or over the demo's texts
abbrev pub search_steps : Held → Search → Result Problem Refusal → Type 0
search_steps held (searches.List ask) = Checks held Listing (files_of ask.fin ask.sources)
search_steps held (searches.Test method ask) = Checks held (Testing method) (files_of ask.fin ask.sources)
search_steps held (searches.Demo n workers) = Judges Listing (finitization_text n) (source_text n ∷ [])
search_steps held (searches.Shard ask) = Checks held Listing (files_of ask.fin ask.sources)
search_steps held (searches.Emit ask) = Builds held (files_of ask.fin ask.sources)

-- steps that make no problem: what they refuse a file with
abbrev pub refusing : {A : Type 0} → (Result A Refusal → Type 0) → Result Problem Refusal → Type 0
refusing steps (Ok problem) = ⊥
refusing steps (Err r) = steps (Err r)

-- the steps of a command up to a problem. Shards that are put together pose none, nor does a finitization or a trace alone.
abbrev pub steps_of : Held → Command → Result Problem Refusal → Type 0
steps_of held (commands.Search search) = search_steps held search
steps_of held (commands.Check fin sources) = Checks held Listing (files_of fin sources)
steps_of held (commands.Merge files) = λ result. ⊥
steps_of held (commands.Upgrade fin) = refusing (Carries held fin)
steps_of held (commands.Trace file from to workers) = λ result. ⊥

-- The file is one that the search reads: no step before its read is broken. The demo reads none.
abbrev pub SearchReads : Held → Search → List ℕ → Type 0
SearchReads held (searches.List ask) file = Reads held (files_of ask.fin ask.sources) file
SearchReads held (searches.Test method ask) file = Reads held (files_of ask.fin ask.sources) file
SearchReads held (searches.Demo n workers) file = ⊥
SearchReads held (searches.Shard ask) file = Reads held (files_of ask.fin ask.sources) file
SearchReads held (searches.Emit ask) file = Reads held (files_of ask.fin ask.sources) file

-- the same of a command
abbrev pub ReadsFor : Held → Command → List ℕ → Type 0
ReadsFor held (commands.Search search) file = SearchReads held search file
ReadsFor held (commands.Check fin sources) file = Reads held (files_of fin sources) file
ReadsFor held (commands.Merge files) file = ReadsShards held files file
ReadsFor held (commands.Upgrade fin) file = Reads held (files_of fin []) file
ReadsFor held (commands.Trace name from to workers) file = name ≡ file

-- ---- the answer

abbrev pub refusal_answer : Inputs → Refusal → Answer
refusal_answer inputs refusal = line_answer (status_of_file refusal.file) (line_of inputs refusal)

-- what is said of a text that was checked
abbrev pub checked_answer : Checked ℕ → Answer
checked_answer checked = line_answer (status_for checked) (said_of checked)

-- The answer to a command, or to words that give none, over what the files hold: the first refusal, in the order of the
-- steps; else a search's report, or how many classes and slots the problem has. Of files of shards, what these give. Of a
-- finitization alone, the text that it is carried over to. Of the file of a traced listing, how many events it has, or the first
-- line and rule that it breaks.
pub data IsAnswer (held : Held) : Option Command → Answer → Type 0 where
  usage : IsAnswer held None (line_answer 2 usage_text)
  refused : {command : Command} (refusal : Refusal) → steps_of held command (Err refusal) → IsAnswer held (Some command) (refusal_answer (inputs_of command) refusal)
  searched : {search : Search} (problem : Problem) (answer : Answer) → search_steps held search (Ok problem) → Reports search problem answer → IsAnswer held (Some (commands.Search search)) answer
  counted : {fin : List ℕ} {sources : List (List ℕ)} (problem : Problem) → Checks held Listing (files_of fin sources) (Ok problem) → IsAnswer held (Some (commands.Check fin sources)) (counts_of problem)
  merged : {files : List (List ℕ)} (answer : Answer) → MergesFiles held files answer → IsAnswer held (Some (commands.Merge files)) answer
  traced : {file from : List ℕ} {to : Bound} {workers : ℕ} (checked : Checked ℕ) → checked_file held file (record { after = from; upto = to }) workers ≡ Some checked
      → IsAnswer held (Some (commands.Trace file from to workers)) (checked_answer checked)
  upgraded : {fin : List ℕ} (text : List ℕ) → Carries held fin (Ok text) → IsAnswer held (Some (commands.Upgrade fin)) (line_answer 0 text)

-- the bytes of all files that the command reads are known
abbrev pub IsTold : Held → Option Command → Type 0
IsTold held None = Unit {0}
IsTold held (Some command) = (file : List ℕ) → ReadsFor held command file → IsSome (held file)
