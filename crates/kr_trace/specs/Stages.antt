-- Between crates: how far a check has come.
use Rattle.std.specs.Prelude.{◌≡◌, ℕ, ◌+◌, ◌≤◌, List, [], Bool, length, take, Option, Some, None, Result, Ok, Err, is_some, true}
use Rattle.kr_text.specs.Splitting.{lines_in, unended}
use Rattle.kr_core.specs.States.{State}
use Rattle.kr_core.specs.Steps.{fits}
use Rattle.kr_core.specs.declared.event.Event.{Event}
use Rattle.kr_trace.specs.declared.ending.Last.{Last}
use Rattle.kr_trace.specs.declared.judging.Listing.{Listing}
use Rattle.kr_trace.specs.declared.reading.Reading.{Reading}
use Rattle.kr_trace.specs.declared.row.Row.{Row}
use Rattle.kr_trace.specs.declared.refusal.TraceRefusal.{TraceRefusal}
use Rattle.kr_trace.specs.declared.refusal.TraceRefusal.TheVariants.{Bad, NoMemory}
use Rattle.kr_trace.specs.declared.refusal.TraceRule.{TraceRule}
use Rattle.kr_trace.specs.Checked.{Checked, Parts, Rows, bad, event_after, has_rows, is_by, parts_of}
use Rattle.kr_trace.specs.Tables.{adds}

-- what is wanted of a text, or its first fault; or out of memory, which is always allowed
abbrev pub Answers : {A : Type 0} → Checked A → Result A TraceRefusal → Type 0
Answers wanted (Ok a) = wanted ≡ Ok a
Answers {A} wanted (Err (Bad fault)) = wanted ≡ Err fault
Answers wanted (Err (NoMemory _)) = Unit {0}

-- the same, where what is wanted is a state
abbrev pub Reaches : {U : Type 0} → Checked State → State → Result U TraceRefusal → Type 0
Reaches wanted new (Ok _) = wanted ≡ Ok new
Reaches wanted new (Err (Bad fault)) = wanted ≡ Err fault
Reaches wanted new (Err (NoMemory _)) = Unit {0}

-- the text's parts: its first lines, so many of them, are rows
pub record HasParts (text : List ℕ) (rows : ℕ) (last : Option Last) (events : List ℕ) : Type 0 where
  pub within : rows ≤ length (lines_in text)
  pub parts : parts_of (lines_in text) ≡ record { rows = take rows (lines_in text); last = last; events = lines_in events }
  pub ending : is_some last ≡ true → unended text ≡ unended events
  pub few : rows + length events ≤ length text

-- the rule that an event breaks
abbrev pub Judges : Listing → State → Event → Option TraceRule → Type 0
Judges listing s event None = (fits s event ≡ true) × (is_by listing.workers event ≡ true) × (has_rows listing.last listing.rows.keys s event ≡ true)
Judges listing s event (Some rule) = (n : ℕ) → event_after listing.workers listing.last listing.rows.keys s n (Some event) ≡ bad n rule

-- one more row
pub record AddsRow (done : Rows) (row : Row) (reading : Reading) : Type 0 where
  pub rows_are : reading.rows ≡ adds done row.key row.passes
  pub before_is : reading.before ≡ row.key

pub record HasRow (wanted : Checked Row) (done : Rows) (reading : Reading) : Type 0 where
  pub row : Row
  pub is : wanted ≡ Ok row
  pub added : AddsRow done row reading

abbrev pub ReadsRow : Checked Row → Rows → Result Reading TraceRefusal → Type 0
ReadsRow wanted done (Ok reading) = HasRow wanted done reading
ReadsRow wanted done (Err (Bad fault)) = wanted ≡ Err fault
ReadsRow wanted done (Err (NoMemory _)) = Unit {0}
