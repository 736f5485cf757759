use Rattle.std.proofs.Common.{length}
use Rattle.kr_deque_hands.specs.Gathering.{IsOpen}
use Rattle.kr_deque_hands.proofs.gathering.Gathered.collect.Given as goal

abbrev pub invariant-loop-hand : goal.invariant-loop-hand
invariant-loop-hand g l = IsOpen l.fn.hands.items l.hands.items l.fn.self l.self l.deque l.first

abbrev pub decreases-loop-hand : goal.decreases-loop-hand
decreases-loop-hand g l = length l.hands.items
