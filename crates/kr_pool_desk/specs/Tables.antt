-- Between crates: what a report under the lock answers.
use Rattle.std.specs.Prelude.{◌≡◌, ◌↔◌, ◌⊎◌, ℕ, ◌==◌, List, Bool, ◌++◌, [], ◌∷◌, true, false, ◌&&◌, not, Option, Some, None}
use Rattle.kr_core.specs.Counts.{AllClosed}
use Rattle.kr_core.specs.Rows.{drained}
use Rattle.kr_core.specs.declared.event.Event.TheVariants.{GiveUp}
use Rattle.kr_core.specs.declared.event.Lease.{Lease}
use Rattle.kr_core.specs.declared.event.Reply.TheVariants.{Go as GoOn, Done as AllDone, Noted}
use Rattle.kr_core.specs.declared.segment.Segment.{Segment}
use Rattle.kr_core.specs.States.{has_remainder, is_owned, segment_of}
use Rattle.kr_core.specs.Steps.{may_give_up}
use Rattle.kr_survey.specs.Takings.{is_past}
use Rattle.kr_survey.specs.declared.part.Part.{Part}
use Rattle.kr_board.specs.Boards.{Adds}
use Rattle.kr_board.specs.Held.{Held}
use Rattle.kr_board.specs.Reporting.{report_event, reply_of}
use Rattle.kr_board.specs.Taking.{take_event, reply_of as take_reply}
use Rattle.kr_board.specs.declared.board.taking.Taken.{Taken}
use Rattle.kr_board.specs.declared.board.taking.Taken.TheVariants.{Finished}
use Rattle.kr_board.specs.declared.board.reporting.Reported.{Reported}
use Rattle.kr_board.specs.declared.board.reporting.Reported.TheVariants.{Gone, Moved, Overrun, Full, Done, Go}
use Rattle.kr_pool_desk.specs.Laying.{LaysOut}

-- the segment is given up where the seat owns it; else nothing changes
pub record GivesUp {R : Type 0} (seat n : ℕ) (old new : Held R) : Type 0 where
  pub owned : may_give_up seat (segment_of n old.core.segments) ≡ true → Adds old (GiveUp seat n) Noted [] new
  pub other : may_give_up seat (segment_of n old.core.segments) ≡ false → new ≡ old

-- a seat that has more to scan goes on, and may have laid rests out; or it gave its segment up, for one nearer to the front
abbrev pub GoesOn : {R : Type 0} → Held R → Lease → Held R → Reported R → Type 0
GoesOn old lease new Gone = ⊥
GoesOn old lease new (Moved mark) = ⊥
GoesOn old lease new (Overrun next) = ⊥
GoesOn old lease new (Full same again) = ⊥
GoesOn old lease new Done = GivesUp lease.seat lease.segment old new
GoesOn old lease new (Go next) = (some : Bool) × LaysOut 3 old lease new next some

-- the board's answer; where it is to go on, the seat does, or gives up
abbrev pub Answers : {R : Type 0} → Held R → Lease → Part R → Held R → Reported R → Type 0
Answers {R} old lease part new reported =
    Adds old (report_event old lease part) (reply_of reported) part.rows new
    ⊎ ((middle : Held R) × (first : Lease) × Adds old (report_event old lease part) (GoOn first) part.rows middle × GoesOn middle first new reported)

-- what the board gives; or nothing any more, since more rows than the limit were drained; or nothing now
abbrev pub Gives : {R : Type 0} → Option ℕ → ℕ → Held R → Held R → Option Taken → Type 0
Gives limit seat old new (Some taken) =
    (Adds old (take_event seat old.core) (take_reply taken) [] new × ((taken ≡ Finished) ↔ AllClosed old.core)) ⊎ ((is_past limit (drained old.log) ≡ true) × (taken ≡ Finished) × (new ≡ old))
Gives limit seat old new None = new ≡ old

-- the first segment is free, and has no rows
abbrev pub has_free_front : List Segment → Bool
has_free_front [] = false
has_free_front (s ∷ ss) = (s.rows == 0) && has_remainder s && not (is_owned s.owner)

-- nobody comes, or this seat
abbrev pub CanCome : ℕ → Option ℕ → Type 0
CanCome seat None = Unit {0}
CanCome seat (Some other) = seat ≡ other

-- a seat goes on after its report only where no more rows than the limit were drained
abbrev pub GoesWithin : {R : Type 0} → Option ℕ → Held R → Reported R → Type 0
GoesWithin limit new Gone = Unit {0}
GoesWithin limit new (Moved mark) = Unit {0}
GoesWithin limit new (Overrun next) = Unit {0}
GoesWithin limit new (Full same again) = Unit {0}
GoesWithin limit new Done = Unit {0}
GoesWithin limit new (Go next) = is_past limit (drained new.log) ≡ false
