use Rattle.std.proofs.Common.{◌≡◌, ◌+◌, ◌≤◌, length, vec_capacity}
use Rattle.kr_pool_workers.proofs.hand.seats_of.Given as goal

abbrev pub invariant-loop-hand : goal.invariant-loop-hand
invariant-loop-hand g l = (length l.seats.items + length l.hands.items ≡ length l.fn.hands.items + 1) × (length l.fn.hands.items + 1 ≤ vec_capacity l.seats)

abbrev pub decreases-loop-hand : goal.decreases-loop-hand
decreases-loop-hand g l = length l.hands.items
