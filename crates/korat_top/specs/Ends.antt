-- To be believed: how a call ends: by its status, what was written and why.
use Rattle.std.specs.Prelude.{◌≡◌, ℕ, ◌<◌, ◌≤◌, ◌⊎◌, List, [], ◌++◌, Bool, true, false, Option, Some, None, Ok, Err}
use Rattle.kr_base.specs.Causes.{Rose}
use Rattle.kr_base.specs.Told.{Added, Stopped}
use Rattle.kr_report.specs.Texts.{read_fault_text, memory_text}
use Rattle.kr_report.specs.Reports.{Answer, bytes_of}
use Rattle.kr_report.specs.Endings.{front_of}
use Rattle.kr_args.specs.declared.forms.Command.{Command}
use Rattle.kr_args.specs.declared.forms.Command.TheVariants as commands
use Rattle.kr_args.specs.declared.forms.Search.{Search}
use Rattle.kr_core.specs.declared.event.Event.{Event}
use Rattle.kr_mean.specs.Problem.{Problem}
use Rattle.korat_top_files.specs.Refusals.{Refusal}
use Rattle.kr_io.specs.Held.{Held}
use Rattle.kr_report_streaming.specs.Followed.{followed_by}
use Rattle.kr_report_streaming.specs.Traces.{trace_text}
use Rattle.korat_top_reports.specs.Reports.{is_traced, report_of}
use Rattle.korat_top.specs.Answer.{IsAnswer, IsTold, ReadsFor, refusal_answer, search_steps, searched_inputs}

-- ---- what is outside

-- State of the files and the sink of a call: what each file holds, where that is known; how many reads failed, and
-- the name of the last one; what the sink took, where that is known; and how many writes failed.
pub record Outside : Type 0 where
  pub held : Held
  pub read_faults : ℕ
  pub last : Option (List ℕ)
  pub taken : Option (List ℕ)
  pub write_faults : ℕ

-- files and a sink, as their traits tell of them
abbrev pub seen : {F K : Type 0} → (F → Held) → (F → ℕ) → (F → Option (List ℕ)) → (K → Option (List ℕ)) → (K → ℕ) → F → K → Outside
seen held read_faults last taken write_faults files out = record { held = held files; read_faults = read_faults files; last = last files; taken = taken out; write_faults = write_faults out }

-- all of a text was written, and no write failed
abbrev pub Wrote : Outside → Outside → List ℕ → Type 0
Wrote before after text = Added (λ (o : Outside). o.taken) (λ (o : Outside). o.write_faults) before after text

-- a write failed after a front of a text
abbrev pub Broke : Outside → Outside → List ℕ → Type 0
Broke before after text = Stopped (λ (o : Outside). o.taken) (λ (o : Outside). o.write_faults) before after text

-- ---- how a call ends

-- the status of an answer
abbrev pub IsGiven : ℕ → Type 0
IsGiven status = (status < 6) ⊎ (status ≡ 9) ⊎ (status ≡ 10)

-- The words' answer was given: its status, and exactly its bytes.
pub record Gives (asked : Option Command) (before after : Outside) (status : ℕ) : Type 0 where
  pub answer : Answer
  pub is_answer : IsAnswer before.held asked answer
  pub status_is : status ≡ answer.status
  pub written : Wrote before after (bytes_of answer)

-- A read was counted in this call as failed, of a file that the command reads: no step before that read is broken, as far
-- as bytes are known. That is all that is written.
pub record TellsReadFault (asked : Option Command) (before after : Outside) : Type 0 where
  pub command : Command
  pub name : List ℕ
  pub asked_for : asked ≡ Some command
  pub read : ReadsFor before.held command name
  pub named : after.last ≡ Some name
  pub cause : Rose before.read_faults after.read_faults
  pub written : Wrote before after (read_fault_text name)

-- some rows of the report of a search, from the first one on, or none
abbrev pub IsFront : Held → Option Command → List ℕ → Type 0
IsFront held asked rows = (rows ≡ []) ⊎ ((search : Search) × (problem : Problem) × (n : ℕ) × (asked ≡ Some (commands.Search search)) × search_steps held search (Ok problem) × (rows ≡ front_of (report_of search problem) n))

-- a text that a call may have begun: its answer's, or that of a read fault, or that of out of memory after some rows
abbrev pub MayTell : Held → Option Command → List ℕ → Type 0
MayTell held asked text = ((answer : Answer) × IsAnswer held asked answer × (text ≡ bytes_of answer))
    ⊎ ((command : Command) × (name : List ℕ) × (asked ≡ Some command) × ReadsFor held command name × (text ≡ read_fault_text name))
    ⊎ ((rows : List ℕ) × IsFront held asked rows × (text ≡ rows ++ memory_text))

-- A fault of the sink ended the call within such a text.
pub record BeginsText (asked : Option Command) (before after : Outside) : Type 0 where
  pub text : List ℕ
  pub may : MayTell before.held asked text
  pub written : Broke before after text

-- Out of memory, which is free, after some rows.
pub record TellsMemory (asked : Option Command) (before after : Outside) : Type 0 where
  pub rows : List ℕ
  pub front : IsTold before.held asked → IsFront before.held asked rows
  pub written : Wrote before after (rows ++ memory_text)

-- How a call ends whose words ask for this, by what is outside before and after it.
pub record EndsFor (asked : Option Command) (before after : Outside) (status : ℕ) : Type 0 where
  pub known : status ≤ 10
  -- 0 to 5, 9 and 10: where the files' bytes are known, it is the answer's status, with exactly its bytes
  pub given : IsGiven status → IsTold before.held asked → Gives asked before after status
  -- 2, whatever is known of the files: only the words give no command, and such words end with 2, 7 or 8
  pub usage : status ≡ 2 → asked ≡ None
  pub no_command : asked ≡ None → (status ≡ 2) ⊎ (status ≡ 7) ⊎ (status ≡ 8)
  -- 6: a counted read fault, and its name alone
  pub read_fault : status ≡ 6 → TellsReadFault asked before after
  -- 7: a counted write fault, after a prefix
  pub write_fault : status ≡ 7 → Rose before.write_faults after.write_faults
  -- and no other status where a write failed, nor but 6 or 7 where a read did
  pub no_write_fault : (status ≡ 7 → ⊥) → after.write_faults ≡ before.write_faults
  pub no_read_fault : (status ≡ 6 → ⊥) → (status ≡ 7 → ⊥) → after.read_faults ≡ before.read_faults
  pub front : status ≡ 7 → IsTold before.held asked → BeginsText asked before after
  -- 8: out of memory, after rows
  pub memory : status ≡ 8 → TellsMemory asked before after

-- Where the files' bytes are known and no count rose, the call ends with its answer, or out of memory.
abbrev pub IsComplete : Option Command → Outside → Outside → ℕ → Type 0
IsComplete asked before after status =
    IsTold before.held asked → (Rose before.read_faults after.read_faults → ⊥) → (Rose before.write_faults after.write_faults → ⊥)
    → (status ≡ 8) ⊎ Gives asked before after status

-- ---- one answer

-- With a trace: both are the line of one refusal; or both are the report of one problem, with a log each.
abbrev pub AreOneTraced : Held → Search → Answer → Answer → Type 0
AreOneTraced held search one other =
    ((refusal : Refusal) × search_steps held search (Err refusal) × (one ≡ refusal_answer (searched_inputs search) refusal) × (other ≡ refusal_answer (searched_inputs search) refusal))
    ⊎ ((problem : Problem) × (a : List Event) × (b : List Event) × search_steps held search (Ok problem) × (one ≡ followed_by (trace_text a) (report_of search problem)) × (other ≡ followed_by (trace_text b) (report_of search problem)))

abbrev pub AreOneSearched : Bool → Held → Search → Answer → Answer → Type 0
AreOneSearched false held search one other = one ≡ other
AreOneSearched true held search one other = AreOneTraced held search one other

-- two answers are one, but for the logs
abbrev pub AreOne : Held → Option Command → Answer → Answer → Type 0
AreOne held None one other = one ≡ other
AreOne held (Some (commands.Search search)) one other = AreOneSearched (is_traced search) held search one other
AreOne held (Some (commands.Check fin sources)) one other = one ≡ other
AreOne held (Some (commands.Merge files)) one other = one ≡ other
AreOne held (Some (commands.Upgrade fin)) one other = one ≡ other
AreOne held (Some (commands.Trace file from to workers)) one other = one ≡ other

-- Words and files have at most one answer, but for the log after it.
abbrev pub OneAnswer : Type 0
OneAnswer = (held : Held) (asked : Option Command) (one other : Answer) → IsAnswer held asked one → IsAnswer held asked other → AreOne held asked one other
