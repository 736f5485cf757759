use Rattle.std.proofs.Common.{◌≡◌, None}
use Rattle.kr_pool_desk.specs.Observed.{ObservesLease}
use Rattle.kr_pool_desk.proofs.shared.Shared.take.Given as goal

abbrev pub invariant-loop : goal.invariant-loop
invariant-loop g l =
    (goal.iterator-loop g).can_next l.iterator' × (goal.iterator-loop g).is_finite l.iterator' × (l.seat.number ≡ l.fn.seat.number)
    × ObservesLease g.N.Run.all g.N.Run.span g.N.Run.cuts g.N.Run.opening g.N.Crew.workers g.N.Run.limit l.fn.seat.number l.fn.seat.calls.amount l.seat.calls.amount None
