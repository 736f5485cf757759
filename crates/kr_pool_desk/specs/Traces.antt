-- To be believed: the log of workers who came to an end.
use Rattle.std.specs.Prelude.{◌≡◌, ℕ, List, [], ◌∷◌, Bool, true, false, ◌&&◌, ◌||◌}
use Rattle.kr_base.specs.declared.span.Span.{Span}
use Rattle.kr_base.specs.declared.entry.Entry.{Entry}
use Rattle.kr_core.specs.declared.event.Event.{Event}
use Rattle.kr_core.specs.declared.event.Event.TheVariants.{Take, Steal, Report, GiveUp, Drain, StopAt, Look}
use Rattle.kr_core.specs.States.{State}
use Rattle.kr_core.specs.Openings.{opening}
use Rattle.kr_core.specs.Counts.{HonestRuns}
use Rattle.kr_board.specs.Closing.{all_closed}
use Rattle.kr_pool_desk.specs.Runs.{is_shared}
use Rattle.kr_pool_desk.specs.Short.{AreShortEvents, BeginsShort}
use Rattle.kr_core.specs.Cutting.{cuts_for}

abbrev pub is_last : List Event → Bool
is_last [] = true
is_last (event ∷ events) = false

-- a stop, after which nothing comes
abbrev pub is_last_stop : Event → List Event → Bool
is_last_stop (Take seat n) events = false
is_last_stop (Steal seat victim cut n) events = false
is_last_stop (Report seat n reach rows tried spent) events = false
is_last_stop (GiveUp seat n) events = false
is_last_stop (Drain rows) events = false
is_last_stop (StopAt mark) events = is_last events
is_last_stop (Look seat) events = false

-- each event is a drain, or of a seat below the number of workers; or it is a stop and the last of all
abbrev pub are_by : ℕ → List Event → Bool
are_by workers [] = true
are_by workers (event ∷ events) = (is_shared workers event || is_last_stop event events) && are_by workers events

-- the events, one after another, are honest steps from a state to one in which no segment has an owner or a remainder, all by
-- so many workers; and their cuts are short, if keys are and the bounds in the first state
pub record Finishes {R : Type 0} (all : List (Entry R)) (first : State) (workers : ℕ) (log : List Event) : Type 0 where
  pub last : State
  pub runs : HonestRuns all first log last
  pub seats : are_by workers log ≡ true
  pub closed : all_closed last ≡ true
  pub short : BeginsShort all first → AreShortEvents log

-- from the state that a span begins in, cut for so many workers
abbrev pub IsTrace : {R : Type 0} → List (Entry R) → Span → ℕ → List Event → Type 0
IsTrace all span workers log = Finishes all (opening span (cuts_for span workers)) workers log
