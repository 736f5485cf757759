use Rattle.std.proofs.Common.{◌≡◌, ◌-◌}
use Rattle.crossbeam_deque.specs.Handles.{worker_view}
use Rattle.kr_deque_hands.specs.Hands.{own, stolen, IsRestSame, Stays}
use Rattle.kr_deque_hands.proofs.hand.Hand.first.Given as goal

abbrev pub invariant-loop-task : goal.invariant-loop-task
invariant-loop-task g l = Stays l.fn.self l.self × IsRestSame l.fn.self l.self × (stolen l.self ≡ stolen l.fn.self) × (own l.self ≡ own l.fn.self)

abbrev pub decreases-loop-task : goal.decreases-loop-task
decreases-loop-task g l = (worker_view l.self.deque).marks.pushed - (worker_view l.self.deque).marks.popped
