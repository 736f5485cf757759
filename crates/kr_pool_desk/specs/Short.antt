-- To be believed: cuts whose text is read: of at most 4,096 numbers, each of 32 bits.
use Rattle.std.specs.Prelude.{ℕ, ◌^◌, ◌<◌, ◌≤◌, List, [], ◌∷◌, length}
use Rattle.std.specs.List.{AllByRecursion}
use Rattle.kr_base.specs.declared.span.Bound.{Bound}
use Rattle.kr_base.specs.declared.span.Bound.TheVariants.{At, End}
use Rattle.kr_base.specs.declared.span.Span.{Span}
use Rattle.kr_base.specs.declared.entry.Entry.{Entry}
use Rattle.kr_core.specs.declared.segment.Segment.{Segment}
use Rattle.kr_core.specs.declared.event.Event.{Event}
use Rattle.kr_core.specs.declared.event.Event.TheVariants.{Take, Steal, Report, GiveUp, Drain, StopAt, Look}
use Rattle.kr_core.specs.Openings.{opening}
use Rattle.kr_core.specs.States.{State, Each}

pub record IsShort (cut : List ℕ) : Type 0 where
  pub few : length cut ≤ 4096
  pub small : AllByRecursion (λ n. n < 2 ^ 32) cut

abbrev pub IsShortBound : Bound → Type 0
IsShortBound (At cut) = IsShort cut
IsShortBound End = Unit {0}

-- the keys of entries
abbrev pub AreShortKeys : {R : Type 0} → List (Entry R) → Type 0
AreShortKeys [] = Unit {0}
AreShortKeys (e ∷ es) = IsShort e.key × AreShortKeys es

-- where a segment is scanned to, and where it ends
abbrev pub IsShortSegment : Segment → Type 0
IsShortSegment s = IsShortBound s.mark × IsShortBound s.upto

-- the cut, the reach or the mark that an event has
abbrev pub IsShortEvent : Event → Type 0
IsShortEvent (Take seat n) = Unit {0}
IsShortEvent (Steal seat victim cut n) = IsShort cut
IsShortEvent (Report seat n reach rows tried spent) = IsShortBound reach
IsShortEvent (GiveUp seat n) = Unit {0}
IsShortEvent (Drain rows) = Unit {0}
IsShortEvent (StopAt mark) = IsShort mark
IsShortEvent (Look seat) = Unit {0}

abbrev pub AreShortEvents : List Event → Type 0
AreShortEvents [] = Unit {0}
AreShortEvents (event ∷ events) = IsShortEvent event × AreShortEvents events

-- all keys, and the bounds of the segments that are there from the start
pub record BeginsShort {R : Type 0} (all : List (Entry R)) (first : State) : Type 0 where
  pub keys : AreShortKeys all
  pub segments : Each IsShortSegment first.segments

abbrev pub IsShortRun : {R : Type 0} → List (Entry R) → Span → List (List ℕ) → Type 0
IsShortRun all span cuts = BeginsShort all (opening span cuts)
