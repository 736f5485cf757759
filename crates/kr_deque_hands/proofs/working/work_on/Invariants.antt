use Rattle.std.proofs.Common.{◌≡◌, [], None}
use Rattle.kr_deque_hands.specs.Hands.{IsHandOf, Works}
use Rattle.kr_deque_hands.proofs.working.work_on.Given as goal

abbrev pub invariant-loop : goal.invariant-loop
invariant-loop g l =
    (goal.iterator-loop g).can_next l.iterator' × (goal.iterator-loop g).is_finite l.iterator' × g.S.Survey.made l.survey l.scratch × (l.hand.refused ≡ None) × IsHandOf l.work l.hand
    × Works (g.S.Survey.all l.survey) l.fn.hand [] l.hand []
