use Rattle.std.proofs.Common.{◌≡◌}
use Rattle.kr_pool_workers.proofs.working.take_on.Given as goal

abbrev pub invariant-loop : goal.invariant-loop
invariant-loop g l =
    (goal.iterator-loop g).can_next l.iterator' × (goal.iterator-loop g).is_finite l.iterator' × g.S.Survey.made l.survey l.scratch × (l.seat.number ≡ l.fn.seat.number)
