-- To be believed: the window, and the limit, in a log: the rows kept are few; and once more rows were drained than are wanted,
-- no segment is begun.
use Rattle.std.specs.Prelude.{◌≡◌, ℕ, ◌+◌, List, [], ◌∷◌, Bool, true, false, ◌&&◌, not, Option, Some, None}
use Rattle.kr_core.specs.declared.event.Event.{Event}
use Rattle.kr_core.specs.declared.event.Event.TheVariants.{Take, Steal, Report, GiveUp, Drain, StopAt, Look}
use Rattle.kr_core.specs.Rows.{drains}
use Rattle.kr_core.specs.States.{State}
use Rattle.kr_core.specs.Steps.{after}
use Rattle.kr_board.specs.Windows.{CountsFew}
use Rattle.kr_survey.specs.Takings.{is_past}
use Rattle.kr_pool_desk.specs.declared.wanted.Wanted.{Wanted}
use Rattle.kr_survey.specs.Takings.{is_past}
use Rattle.kr_pool_desk.specs.declared.wanted.Wanted.TheVariants.{All, Left, Past}

-- a seat begins a segment
abbrev pub begins : Event → Bool
begins (Take seat n) = true
begins (Steal seat victim cut n) = true
begins (Report seat n reach rows tried spent) = false
begins (GiveUp seat n) = false
begins (Drain rows) = false
begins (StopAt mark) = false
begins (Look seat) = false

-- where so many rows were drained before
abbrev pub may_begin : Option ℕ → ℕ → Event → Bool
may_begin limit d event = not (begins event && is_past limit d)

-- each event may, where so many rows were drained before the first
abbrev pub begins_within : Option ℕ → ℕ → List Event → Bool
begins_within limit d [] = true
begins_within limit d (event ∷ events) = may_begin limit d event && begins_within limit (d + drains event) events

-- in each state that the events lead to, one after another, the rows that the segments count are at most 256 more than the window
abbrev pub KeepsWindow : Option ℕ → State → List Event → Type 0
KeepsWindow window s [] = Unit {0}
KeepsWindow window s (event ∷ events) = CountsFew window (after s event) × KeepsWindow window (after s event) events

-- how many rows are still wanted, where so many were drained
abbrev pub IsWanted : Option ℕ → ℕ → Wanted → Type 0
IsWanted limit d All = limit ≡ None
IsWanted limit d (Left n) = limit ≡ Some (d + n)
IsWanted limit d Past = is_past limit d ≡ true
