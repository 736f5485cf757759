-- Between crates: where a seat cuts in two what it has left.
use Rattle.std.specs.Prelude.{ℕ, ◌-◌, ◌^◌, List, nat_lt, Option, Some, None, if◌then◌else◌}
use Rattle.kr_base.specs.declared.span.Bound.{Bound}
use Rattle.kr_base.specs.declared.span.Bound.TheVariants.{At, End}
use Rattle.kr_base.specs.Inside.{inside_of}
use Rattle.kr_core.specs.declared.segment.Segment.{Segment}
use Rattle.kr_core.specs.declared.event.Lease.{Lease}
use Rattle.kr_base.specs.Bounds.{is_same}
use Rattle.kr_core.specs.States.{State, is_owned_by, segment_of}

-- by the segment's mark, which is the lease's, and its upto: the cut inside
abbrev pub split_at : Bound → Bound → Lease → Option (List ℕ)
split_at (At mark) upto lease = if is_same (At mark) (At lease.mark) then inside_of mark upto else None
split_at End upto lease = None

-- the lease's seat owns the segment
abbrev pub split_in : Option Segment → Lease → Option (List ℕ)
split_in None lease = None
split_in (Some g) lease = if is_owned_by lease.seat g.owner then split_at g.mark g.upto lease else None

-- while fewer than the last number of segments were made
abbrev pub split_of : State → Lease → Option (List ℕ)
split_of s lease = if nat_lt s.next (2 ^ 64 - 1) then split_in (segment_of lease.segment s.segments) lease else None
