use Rattle.std.proofs.Common.{◌≡◌}
use Rattle.kr_pool_desk.specs.Leasing.{IsLeaseOf}
use Rattle.kr_pool_desk.specs.Short.{IsShortRun}
use Rattle.kr_pool_workers.proofs.working.follow.Given as goal

abbrev pub invariant-loop : goal.invariant-loop
invariant-loop g l =
    (goal.iterator-loop g).can_next l.iterator' × (goal.iterator-loop g).is_finite l.iterator' × IsLeaseOf (IsShortRun g.N.Run.all g.N.Run.span g.N.Run.cuts) l.seat.number l.lease × g.S.Survey.made l.survey l.scratch × (l.seat.number ≡ l.fn.seat.number)
