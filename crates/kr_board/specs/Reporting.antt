-- Between crates: what a report gives.
use Rattle.std.specs.Prelude.{◌≡◌, Bool, not, Option, Some, None, is_none, length, if◌then◌else◌}
use Rattle.kr_base.specs.declared.span.Bound.{Bound}
use Rattle.kr_base.specs.declared.span.Bound.TheVariants.{At, End}
use Rattle.kr_base.specs.Bounds.{less, is_same}
use Rattle.kr_survey.specs.declared.part.Part.{Part}
use Rattle.kr_core.specs.declared.segment.Segment.{Segment}
use Rattle.kr_core.specs.declared.event.Event.{Event}
use Rattle.kr_core.specs.declared.event.Event.TheVariants.{Report, Look}
use Rattle.kr_core.specs.declared.event.Lease.{Lease}
use Rattle.kr_core.specs.declared.event.Reply.{Reply}
use Rattle.kr_core.specs.declared.event.Reply.TheVariants.{Go as GoOn, Done as AllDone, Noted}
use Rattle.kr_core.specs.States.{State, is_owned_by, segment_of}
use Rattle.kr_board.specs.Held.{Held}
use Rattle.kr_board.specs.Windows.{is_over}
use Rattle.kr_board.specs.declared.board.reporting.Reported.{Reported}
use Rattle.kr_board.specs.declared.board.reporting.Reported.TheVariants.{Gone, Moved, Overrun, Full, Done, Go}

-- A seat's own segment, by its mark: the mark isn't the lease's; or the part reaches above its upto, which the lease has
-- then. An owned segment's mark is a cut.
abbrev pub refusal_at : {R : Type 0} → Bound → Bound → Lease → Bound → Option (Reported R)
refusal_at End upto lease reach = Some Gone
refusal_at (At mark) upto lease reach =
    if not (is_same (At mark) (At lease.mark)) then Some (Moved mark)
    else (if less upto reach then Some (Overrun (record lease { upto = upto })) else None)

-- Why a report isn't taken in, first to last: no segment of that number is owned by the lease's seat, or as above.
abbrev pub refusal_of : {R : Type 0} → Option Segment → Lease → Bound → Option (Reported R)
refusal_of None lease reach = Some Gone
refusal_of (Some g) lease reach = if not (is_owned_by lease.seat g.owner) then Some Gone else refusal_at g.mark g.upto lease reach

-- by the segments alone
abbrev pub misfit : {R : Type 0} → State → Lease → Bound → Option (Reported R)
misfit s lease reach = refusal_of (segment_of lease.segment s.segments) lease reach

-- a part that fits isn't taken in where the window is full, and is handed back with the lease
abbrev pub full_else : {R : Type 0} → Bool → Lease → Part R → Option (Reported R) → Option (Reported R)
full_else full lease part (Some refused) = Some refused
full_else full lease part None = if full then Some (Full lease part) else None

abbrev pub refusal : {R : Type 0} → Held R → Lease → Part R → Option (Reported R)
refusal b lease part = full_else (is_over b lease.segment (length part.rows)) lease part (misfit b.core lease part.reach)

-- a report that isn't taken in is a look
abbrev pub report_event : {R : Type 0} → Held R → Lease → Part R → Event
report_event b lease part =
    if is_none (refusal b lease part)
    then Report lease.seat lease.segment part.reach (length part.rows) part.tried part.spent
    else Look lease.seat

-- what the machine said
abbrev pub reply_of : {R : Type 0} → Reported R → Reply
reply_of Gone = Noted
reply_of (Moved mark) = Noted
reply_of (Overrun lease) = Noted
reply_of (Full lease part) = Noted
reply_of Done = AllDone
reply_of (Go lease) = GoOn lease

-- the refusal, if there is one
abbrev pub IsRefusal : {R : Type 0} → Option (Reported R) → Reported R → Type 0
IsRefusal None reported = Unit {0}
IsRefusal (Some refused) reported = reported ≡ refused
