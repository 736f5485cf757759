use Rattle.std.proofs.Common.{◌≡◌, ◌-◌}
use Rattle.crossbeam_deque.specs.Handles.{worker_view}
use Rattle.kr_deque_hands.specs.Hands.{own, stolen, IsRestSame, Stays}
use Rattle.kr_deque_hands.proofs.hand.Hand.look.Given as goal

abbrev pub invariant-loop-self : goal.invariant-loop-self
invariant-loop-self g l = Stays l.fn.self l.self × IsRestSame l.fn.self l.self × (stolen l.self ≡ stolen l.fn.self) × (own l.self ≡ own l.fn.self)

abbrev pub decreases-loop-self : goal.decreases-loop-self
decreases-loop-self g l = 4000 - (worker_view l.self.deque).marks.pushed
