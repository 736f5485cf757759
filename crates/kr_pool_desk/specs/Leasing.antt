-- Between crates: leases as a seat works with them.
use Rattle.std.specs.Prelude.{◌≡◌, ℕ, true}
use Rattle.kr_base.specs.declared.span.Bound.TheVariants.{At}
use Rattle.kr_base.specs.Bounds.{less}
use Rattle.kr_core.specs.declared.event.Lease.{Lease}
use Rattle.kr_survey.specs.declared.part.Part.{Part}
use Rattle.kr_pool_desk.specs.Short.{IsShortBound}
use Rattle.kr_board.specs.declared.board.taking.Taken.{Taken}
use Rattle.kr_board.specs.declared.board.taking.Taken.TheVariants.{Lease as Leased, Later, Finished}
use Rattle.kr_board.specs.declared.board.reporting.Reported.{Reported}
use Rattle.kr_board.specs.declared.board.reporting.Reported.TheVariants.{Gone, Moved, Overrun, Full, Done, Go}

-- a lease of the seat, under which something is left to scan; its end is short, where the run begins short
pub record IsLeaseOf (BeginsShort : Type 0) (seat : ℕ) (lease : Lease) : Type 0 where
  pub seat_is : lease.seat ≡ seat
  pub ahead : less (At lease.mark) lease.upto ≡ true
  pub short : BeginsShort → IsShortBound lease.upto

abbrev pub Takes : Type 0 → ℕ → Taken → Type 0
Takes S seat (Leased lease) = IsLeaseOf S seat lease
Takes S seat Later = Unit {0}
Takes S seat Finished = Unit {0}

-- a lease of the seat; or the lease and the part that were handed in
abbrev pub Reports : {R : Type 0} → Type 0 → ℕ → Lease → Part R → Reported R → Type 0
Reports S seat lease part Gone = Unit {0}
Reports S seat lease part (Moved mark) = Unit {0}
Reports S seat lease part (Overrun next) = IsLeaseOf S seat next
Reports S seat lease part (Full same again) = (same ≡ lease) × (again ≡ part)
Reports S seat lease part Done = Unit {0}
Reports S seat lease part (Go next) = IsLeaseOf S seat next
