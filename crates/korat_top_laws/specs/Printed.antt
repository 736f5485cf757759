-- To be believed: events whose lines are read as they are, and logs of which the rules accept each event.
use Rattle.std.specs.Prelude.{◌≡◌, ℕ, ◌^◌, ◌<◌, List, [], ◌∷◌, true, Some, Ok}
use Rattle.kr_base.specs.declared.span.Bound.{Bound}
use Rattle.kr_base.specs.declared.span.Bound.TheVariants.{At, End}
use Rattle.kr_base.specs.Cuts.{cut_text}
use Rattle.kr_base.specs.Parsing.{cut_of}
use Rattle.kr_text.specs.Splitting.{IsWithout, ended, is_empty, lines_in, unended}
use Rattle.kr_core.specs.declared.event.Event.{Event}
use Rattle.kr_core.specs.declared.event.Event.TheVariants.{Take, Steal, Report, GiveUp, Drain, StopAt, Look}
use Rattle.kr_core.specs.States.{State}
use Rattle.kr_core.specs.Steps.{after, fits}
use Rattle.kr_report_streaming.specs.Traces.{event_text, trace_text}
use Rattle.kr_trace.specs.declared.ending.Last.{Last}
use Rattle.kr_trace.specs.Words.{event_in}
use Rattle.kr_trace.specs.Checked.{events_from, has_rows, is_by}

-- a cut whose text is read as it: it has from 1 to 4,096 numbers below 2^32
abbrev pub IsShown : List ℕ → Type 0
IsShown cut = cut_of (cut_text cut) ≡ Some cut

abbrev pub IsShownBound : Bound → Type 0
IsShownBound End = Unit {0}
IsShownBound (At cut) = IsShown cut

-- the empty mark isn't written
abbrev pub IsShownMark : List ℕ → Type 0
IsShownMark [] = Unit {0}
IsShownMark (n ∷ ns) = IsShown (n ∷ ns)

-- numbers and cuts as the machine's types have them
abbrev pub IsPrintable : Event → Type 0
IsPrintable (Take seat n) = (seat < 2 ^ 32) × (n < 2 ^ 64)
IsPrintable (Steal seat victim cut n) = (seat < 2 ^ 32) × (victim < 2 ^ 64) × IsShown cut × (n < 2 ^ 64)
IsPrintable (Report seat n reach rows tried spent) = (seat < 2 ^ 32) × (n < 2 ^ 64) × IsShownBound reach × (rows < 2 ^ 64) × (tried < 2 ^ 64)
IsPrintable (GiveUp seat n) = (seat < 2 ^ 32) × (n < 2 ^ 64)
IsPrintable (Drain rows) = rows < 2 ^ 64
IsPrintable (StopAt mark) = IsShownMark mark
IsPrintable (Look seat) = seat < 2 ^ 32

-- what is written of an event is one line, which is read as the event
pub record IsReadBack (event : Event) : Type 0 where
  pub line : List ℕ
  pub text : event_text event ≡ ended line
  pub one : IsWithout 10 line
  pub read : event_in line ≡ Some event

abbrev pub EventLaw : Type 0
EventLaw = (event : Event) → IsPrintable event → IsReadBack event

-- each event can be read back, fits, is by one of the workers, and reports the rows that were written
abbrev pub Accepts : ℕ → Last → List (List ℕ) → State → List Event → State → Type 0
Accepts workers last keys s [] new = new ≡ s
Accepts workers last keys s (event ∷ events) new =
    IsPrintable event × (fits s event ≡ true) × (is_by workers event ≡ true) × (has_rows last keys s event ≡ true) × Accepts workers last keys (after s event) events new

-- for every list of rows' keys, last line, state, and log that the rules accept from it: its lines are checked to lead where it leads
abbrev pub LogLaw : Type 0
LogLaw = (workers : ℕ) (last : Last) (keys : List (List ℕ)) (s new : State) (events : List Event) (n : ℕ) → Accepts workers last keys s events new →
    events_from workers last keys s n (lines_in (trace_text events)) (is_empty (unended (trace_text events))) ≡ Ok new
