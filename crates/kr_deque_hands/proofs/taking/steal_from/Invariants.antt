use Rattle.std.proofs.Common.{◌≡◌}
use Rattle.crossbeam_deque.specs.Handles.{view, IsPassOf, SamePass, stealer_deque}
use Rattle.kr_deque_hands.proofs.taking.steal_from.Given as goal

abbrev pub invariant-loop : goal.invariant-loop
invariant-loop g l =
    (goal.iterator-loop g).can_next l.iterator' × (goal.iterator-loop g).is_finite l.iterator' × IsPassOf (stealer_deque l.front) l.pass × (view l.pass ≡ view l.fn.pass) × SamePass l.fn.pass l.pass
