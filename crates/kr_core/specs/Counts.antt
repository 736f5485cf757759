-- To be believed: what the machine counts, where its events say what the entries are: every interleaving counts each entry once.
use Rattle.std.specs.Prelude.{ℕ, ◌+◌, ◌≡◌, List, [], ◌∷◌, ◌++◌, Bool, true, false, Option, Some, None, length}
use Rattle.std.specs.List.{sum_by, count_by, flat_map}
use Rattle.kr_base.specs.declared.span.Bound.{Bound}
use Rattle.kr_base.specs.declared.span.Bound.TheVariants.{At}
use Rattle.kr_base.specs.declared.span.Span.{Span}
use Rattle.kr_base.specs.declared.entry.Entry.{Entry}
use Rattle.kr_base.specs.Bounds.{less}
use Rattle.kr_base.specs.Entries.{Ascends, is_valid, is_spent, within, entries_in, NoneSpent}
use Rattle.kr_core.specs.declared.segment.Segment.{Segment}
use Rattle.kr_core.specs.declared.event.Event.{Event}
use Rattle.kr_core.specs.declared.event.Event.TheVariants.{Take, Steal, Report, GiveUp, Drain, StopAt, Look}
use Rattle.kr_core.specs.declared.event.Reply.{Reply}
use Rattle.kr_base.specs.Causes.{capped}
use Rattle.kr_core.specs.States.{State, is_closed, segment_of, Each}
use Rattle.kr_core.specs.Openings.{AreInside, opening, end_of}
use Rattle.kr_core.specs.Steps.{Step}
use Rattle.kr_core.specs.Kept.{beginning}

-- the last entry alone is spent, and its key is the bound
pub record EndsSpent {R : Type 0} (b : Bound) (es : List (Entry R)) : Type 0 where
  pub before : List (Entry R)
  pub last : Entry R
  pub split : es ≡ before ++ last ∷ []
  pub none_before : NoneSpent before
  pub last_spent : is_spent last.mark ≡ true
  pub key_is : At last.key ≡ b

-- a flag says whether the last entry is spent, whose key is the bound then; no other is
abbrev pub IsSpentFlag : {R : Type 0} → Bool → Bound → List (Entry R) → Type 0
IsSpentFlag true b es = EndsSpent b es
IsSpentFlag false b es = NoneSpent es

-- a report's rows, tried and flag are those of the entries
pub record Tells {R : Type 0} (es : List (Entry R)) (reach : Bound) (rows tried : ℕ) (spent : Bool) : Type 0 where
  pub rows_are : rows ≡ capped (count_by (λ e. is_valid e.mark) es)
  pub tried_are : tried ≡ capped (length es)
  pub spent_is : IsSpentFlag spent reach es

-- the same, of those above a segment's mark and not above the reach
abbrev pub TellsFrom : {R : Type 0} → List (Entry R) → Option Segment → Bound → ℕ → ℕ → Bool → Type 0
TellsFrom es None reach rows tried spent = ⊥
TellsFrom es (Some s) reach rows tried spent = Tells (within s.mark reach es) reach rows tried spent

-- an event says what the entries are, in the state before it
abbrev pub IsHonest : {R : Type 0} → List (Entry R) → State → Event → Type 0
IsHonest es old (Take seat n) = Unit {0}
IsHonest es old (Steal seat victim cut n) = Unit {0}
IsHonest es old (Report seat n reach rows tried spent) = TellsFrom es (segment_of n old.segments) reach rows tried spent
IsHonest es old (GiveUp seat n) = Unit {0}
IsHonest es old (Drain rows) = Unit {0}
IsHonest es old (StopAt mark) = Unit {0}
IsHonest es old (Look seat) = Unit {0}

-- the events, one after another, are honest steps from one state to another
abbrev pub HonestRuns : {R : Type 0} → List (Entry R) → State → List Event → State → Type 0
HonestRuns es old [] new = new ≡ old
HonestRuns es old (event ∷ events) new =
    (reply : Reply) × (middle : State) × IsHonest es old event × Step old event reply middle × HonestRuns es middle events new

-- the entries that are counted: those before the first segment, and of each segment those up to its mark
abbrev pub counted : {R : Type 0} → List (Entry R) → Bound → State → List (Entry R)
counted es from s = within from (beginning s) es ++ flat_map (λ g. within g.after g.mark es) s.segments

-- the counts are those of the entries, and the flag says whether the last counted one is spent
pub record IsCounted {R : Type 0} (es : List (Entry R)) (from : Bound) (s : State) : Type 0 where
  pub tried : Each (λ g. g.tried ≡ capped (length (within g.after g.mark es))) s.segments
  pub past : s.past ≡ capped (length (within from (beginning s) es))
  pub spent : IsSpentFlag s.spent s.end (counted es from s)

-- the last cut that the events stop at, or the bound where there is none
abbrev pub last_stop : Bound → List Event → Bound
last_stop b [] = b
last_stop b (Take seat n ∷ events) = last_stop b events
last_stop b (Steal seat victim cut n ∷ events) = last_stop b events
last_stop b (Report seat n reach rows tried spent ∷ events) = last_stop b events
last_stop b (GiveUp seat n ∷ events) = last_stop b events
last_stop b (Drain rows ∷ events) = last_stop b events
last_stop b (StopAt mark ∷ events) = last_stop (At mark) events
last_stop b (Look seat ∷ events) = last_stop b events

-- no segment has an owner or a remainder
abbrev pub AllClosed : State → Type 0
AllClosed s = Each (λ g. is_closed g ≡ true) s.segments

-- What was tried in all are the entries up to the end, and these are all of the span, unless the last stop is below it.
pub record IsListed {R : Type 0} (es : List (Entry R)) (span : Span) (events : List Event) (s : State) : Type 0 where
  pub tried : capped (s.past + sum_by (λ g. g.tried) s.segments) ≡ capped (length (entries_in (At span.after) s.end es))
  pub entries : counted es (At span.after) s ≡ entries_in (At span.after) s.end es
  pub spent : IsSpentFlag s.spent s.end (entries_in (At span.after) s.end es)
  pub whole : less (last_stop span.upto events) span.upto ≡ false → entries_in (At span.after) s.end es ≡ entries_in (At span.after) span.upto es

-- no segment begins below the span's beginning, and the end is not above the span's
pub record Counts {R : Type 0} (es : List (Entry R)) (span : Span) (events : List Event) (s : State) : Type 0 where
  pub begins : Each (λ g. less g.after (At span.after) ≡ false) s.segments
  pub ends : less (end_of span) s.end ≡ false
  pub counted : IsCounted es (At span.after) s
  pub listed : AllClosed s → IsListed es span events s

-- for every ascending list of entries, span, cuts inside it, and list of events that are honest steps from the opening state
abbrev pub CountingLaw : Type 0 → Type 0
CountingLaw R = (es : List (Entry R)) (span : Span) (cuts : List (List ℕ)) (events : List Event) (new : State) → Ascends es →
    AreInside cuts span → HonestRuns es (opening span cuts) events new → Counts es span events new
