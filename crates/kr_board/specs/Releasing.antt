-- Between crates: every owned segment given up.
use Rattle.std.specs.Prelude.{◌≡◌, ℕ, ◌+◌, List, [], ◌∷◌, ◌++◌, Option, Some, None, take, drop}
use Rattle.kr_core.specs.declared.segment.Segment.{Segment}
use Rattle.kr_core.specs.declared.event.Event.{Event}
use Rattle.kr_core.specs.declared.event.Event.TheVariants.{GiveUp}
use Rattle.kr_core.specs.Steps.{owned, replay}
use Rattle.kr_board.specs.Held.{Held}
use Rattle.kr_board.specs.Boards.{Stays}

-- the segments without their owners
abbrev pub disowned : List Segment → List Segment
disowned [] = []
disowned (g ∷ gs) = owned None g ∷ disowned gs

abbrev pub given_up_by : Option ℕ → ℕ → List Event
given_up_by None n = []
given_up_by (Some seat) n = GiveUp seat n ∷ []

-- one event for each that has an owner
abbrev pub given_up : List Segment → List Event
given_up [] = []
given_up (g ∷ gs) = given_up_by g.owner g.number ++ given_up gs

-- No segment has an owner then, and nothing else has changed. Each owner gave its own up, in the order of the segments, and
-- each of these events is a step.
pub record IsReleased {R : Type 0} (old new : Held R) : Type 0 where
  pub segments : new.core ≡ record old.core { segments = disowned old.core.segments }
  pub kept : new.kept ≡ old.kept
  pub logged : new.log ≡ old.log ++ given_up old.core.segments
  pub window : new.window ≡ old.window
  pub steps : replay old.core (given_up old.core.segments) ≡ Some new.core

-- the same of the segment at a place alone
pub record IsReleasedAt {R : Type 0} (i : ℕ) (old new : Held R) : Type 0 where
  pub segments : new.core ≡ record old.core { segments = take i old.core.segments ++ (disowned (take 1 (drop i old.core.segments)) ++ drop (i + 1) old.core.segments) }
  pub kept : new.kept ≡ old.kept
  pub logged : new.log ≡ old.log ++ given_up (take 1 (drop i old.core.segments))
  pub window : new.window ≡ old.window
  pub steps : replay old.core (given_up (take 1 (drop i old.core.segments))) ≡ Some new.core
  pub stays : Stays old new
