-- Between crates: a segment that a report reaches into.
use Rattle.std.specs.Prelude.{ℕ, ◌≡◌, Bool, true, not, Option, Some, None, if◌then◌else◌}
use Rattle.kr_base.specs.declared.span.Bound.{Bound}
use Rattle.kr_base.specs.declared.span.Bound.TheVariants.{At}
use Rattle.kr_base.specs.Bounds.{less}
use Rattle.kr_core.specs.declared.segment.Segment.{Segment}
use Rattle.kr_core.specs.declared.event.Lease.{Lease}

-- whether nothing remains after the reach
abbrev pub closes : Bound → Option Segment → Bool
closes reach None = true
closes reach (Some s) = not (less reach s.upto)

-- the owner of a segment once it is scanned up to the reach
abbrev pub owner_behind : Bound → Bound → Option ℕ → Option ℕ
owner_behind reach upto owner = if not (less reach upto) then None else owner

-- the lease of the segment once its mark is the reach
abbrev pub WouldLease : ℕ → Bound → Option Segment → Lease → Type 0
WouldLease seat reach None lease = ⊥
WouldLease seat reach (Some s) lease = (lease.seat ≡ seat) × (lease.segment ≡ s.number) × (At lease.mark ≡ reach) × (lease.upto ≡ s.upto)
