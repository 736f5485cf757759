-- Between crates: what a board is of a survey, and how a call moves it.
use Rattle.std.specs.Prelude.{◌≡◌, ℕ, List, [], ◌∷◌, ◌++◌, Some, length, drop, take}
use Rattle.kr_base.specs.declared.span.Bound.{Bound}
use Rattle.kr_base.specs.declared.span.Bound.TheVariants.{At}
use Rattle.kr_base.specs.declared.span.Span.{Span}
use Rattle.kr_base.specs.declared.entry.Entry.{Entry}
use Rattle.kr_base.specs.Entries.{Ascends, within}
use Rattle.kr_survey.specs.declared.part.Part.{Part}
use Rattle.kr_survey.specs.Scans.{rows_of}
use Rattle.kr_core.specs.declared.segment.Segment.{Segment}
use Rattle.kr_core.specs.declared.event.Event.{Event}
use Rattle.kr_core.specs.declared.event.Reply.{Reply}
use Rattle.kr_core.specs.Openings.{AreInside, opening}
use Rattle.kr_core.specs.Steps.{Step, replay}
use Rattle.kr_core.specs.Counts.{HonestRuns}
use Rattle.kr_core.specs.Rows.{drained}
use Rattle.kr_core.specs.Beside.{beside, Measures}
use Rattle.kr_board.specs.Held.{Held}
use Rattle.kr_board.specs.Parts.{IsPart}

-- the rows are the survey's: after those drained, of the first segment those up to its mark, of each other its own
pub record KeepsRows {R : Type 0} (all : List (Entry R)) (from : Bound) (events : List Event) (segments : List Segment) (kept : List (List R)) : Type 0 where
  pub before : List R
  pub count : length before ≡ drained events
  pub rows : Measures (λ xs ys. xs ++ ys) rows_of all from before segments kept

-- the board is what its log replays to from the opening state of a span and cuts, the log is honest for the survey, and the
-- rows are the survey's
pub record IsBoardOf {R : Type 0} (all : List (Entry R)) (span : Span) (cuts : List (List ℕ)) (b : Held R) : Type 0 where
  pub replays : replay (opening span cuts) b.log ≡ Some b.core
  pub honest : HonestRuns all (opening span cuts) b.log b.core
  pub rows : KeepsRows all (At span.after) b.log b.core.segments b.kept

-- of each segment the rows kept, and the survey's rows above its mark up to its upto
abbrev pub rows_from : {R : Type 0} → List (Entry R) → List Segment → List (List R) → List R
rows_from all [] ks = []
rows_from all (s ∷ ss) [] = []
rows_from all (s ∷ ss) (k ∷ ks) = k ++ (rows_of (within s.mark s.upto all) ++ rows_from all ss ks)

-- the survey's rows in the span up to the end are those drained, and then of each segment those kept and those to come
pub record HasAllRows {R : Type 0} (all : List (Entry R)) (span : Span) (b : Held R) : Type 0 where
  pub before : List R
  pub count : length before ≡ drained b.log
  pub rows : rows_of (within (At span.after) b.core.end all) ≡ before ++ rows_from all b.core.segments b.kept

abbrev pub BoardLaw : Type 0 → Type 0
BoardLaw R = (all : List (Entry R)) (span : Span) (cuts : List (List ℕ)) (b : Held R) → Ascends all → AreInside cuts span → IsBoardOf all span cuts b → HasAllRows all span b

-- A call is one event: a step of the machine, with what it brings to the rows kept, at the end of the log.
pub record Adds {R : Type 0} (old : Held R) (event : Event) (reply : Reply) (more : List R) (new : Held R) : Type 0 where
  pub step : Step old.core event reply new.core
  pub kept : new.kept ≡ beside (λ xs ys. xs ++ ys) [] old.core event more old.kept
  pub logged : new.log ≡ old.log ++ event ∷ []
  pub window : new.window ≡ old.window

-- whatever survey, span and cuts it was the board of, it stays that
abbrev pub Stays : {R : Type 0} → Held R → Held R → Type 0
Stays {R} old new =
    (all : List (Entry R)) (span : Span) (cuts : List (List ℕ)) → Ascends all → AreInside cuts span → IsBoardOf all span cuts old → IsBoardOf all span cuts new

-- the same, where the part is one of that survey
abbrev pub StaysWith : {R : Type 0} → List ℕ → Part R → Held R → Held R → Type 0
StaysWith {R} mark part old new =
    (all : List (Entry R)) (span : Span) (cuts : List (List ℕ)) → Ascends all → AreInside cuts span → IsPart all mark part → IsBoardOf all span cuts old → IsBoardOf all span cuts new

-- these are the next of the survey's rows after those drained
abbrev pub AreNext : {R : Type 0} → Held R → List R → Type 0
AreNext {R} old rows =
    (all : List (Entry R)) (span : Span) (cuts : List (List ℕ)) → Ascends all → AreInside cuts span → IsBoardOf all span cuts old
    → rows ≡ take (length rows) (drop (drained old.log) (rows_of (within (At span.after) old.core.end all)))
