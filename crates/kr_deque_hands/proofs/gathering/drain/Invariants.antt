use Rattle.crossbeam_deque.specs.Handles.{worker_view}
use Rattle.kr_deque_hands.proofs.Draining.{IsDraining, to_take}
use Rattle.kr_deque_hands.proofs.gathering.drain.Given as goal

abbrev pub invariant-loop-task : goal.invariant-loop-task
invariant-loop-task l = IsDraining l.fn.deque l.deque l.fn.left.items l.left.items

abbrev pub decreases-loop-task : goal.decreases-loop-task
decreases-loop-task l = to_take (worker_view l.deque)
