-- Between crates: rows: those drained and those that the segments keep are the rows of the entries counted.
use Rattle.std.specs.Prelude.{ℕ, ◌+◌, ◌≡◌, List, [], ◌∷◌}
use Rattle.std.specs.List.{sum_by, count_by}
use Rattle.kr_base.specs.declared.span.Bound.{Bound}
use Rattle.kr_base.specs.declared.span.Bound.TheVariants.{At}
use Rattle.kr_base.specs.declared.span.Span.{Span}
use Rattle.kr_base.specs.declared.entry.Entry.{Entry}
use Rattle.kr_base.specs.Entries.{Ascends, is_valid, within}
use Rattle.kr_core.specs.declared.segment.Segment.{Segment}
use Rattle.kr_core.specs.declared.event.Event.{Event}
use Rattle.kr_core.specs.declared.event.Event.TheVariants.{Take, Steal, Report, GiveUp, Drain, StopAt, Look}
use Rattle.kr_base.specs.Causes.{capped}
use Rattle.kr_core.specs.States.{State, Each}
use Rattle.kr_core.specs.Openings.{AreInside, opening}
use Rattle.kr_core.specs.Counts.{HonestRuns, counted}

abbrev pub valid_in : {R : Type 0} → List (Entry R) → ℕ
valid_in es = count_by (λ e. is_valid e.mark) es

-- the rows that come with an event
abbrev pub brought : Event → ℕ
brought (Take seat n) = 0
brought (Steal seat victim cut n) = 0
brought (Report seat n reach rows tried spent) = rows
brought (GiveUp seat n) = 0
brought (Drain rows) = 0
brought (StopAt mark) = 0
brought (Look seat) = 0

-- the rows that an event takes out
abbrev pub drains : Event → ℕ
drains (Take seat n) = 0
drains (Steal seat victim cut n) = 0
drains (Report seat n reach rows tried spent) = 0
drains (GiveUp seat n) = 0
drains (Drain rows) = rows
drains (StopAt mark) = 0
drains (Look seat) = 0

abbrev pub drained : List Event → ℕ
drained [] = 0
drained (event ∷ events) = drains event + drained events

-- a segment's rows are those of its own entries
abbrev pub HasOwnRows : {R : Type 0} → List (Entry R) → Segment → Type 0
HasOwnRows es g = g.rows ≡ capped (valid_in (within g.after g.mark es))

-- each segment has the rows of its own entries, and the first those that are not drained of all entries up to its mark
abbrev pub HaveRows : {R : Type 0} → List (Entry R) → Bound → ℕ → List Segment → Type 0
HaveRows es from d [] = ⊥
HaveRows es from d (g ∷ gs) = (capped (d + g.rows) ≡ capped (valid_in (within from g.mark es))) × Each (HasOwnRows es) gs

pub record IsRowed {R : Type 0} (es : List (Entry R)) (span : Span) (events : List Event) (s : State) : Type 0 where
  pub each : HaveRows es (At span.after) (drained events) s.segments
  pub all : capped (drained events + sum_by (λ g. g.rows) s.segments) ≡ capped (valid_in (counted es (At span.after) s))

-- for every ascending list of entries, span, cuts inside it, and list of events that are honest steps from the opening state
abbrev pub RowsLaw : Type 0 → Type 0
RowsLaw R = (es : List (Entry R)) (span : Span) (cuts : List (List ℕ)) (events : List Event) (new : State) → Ascends es →
    AreInside cuts span → HonestRuns es (opening span cuts) events new → IsRowed es span events new
