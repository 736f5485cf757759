use Rattle.std.proofs.Common.{◌≡◌, ◌+◌, length}
use Rattle.kr_pool_desk.specs.Seats.{calls_of}
use Rattle.kr_pool_desk.proofs.seats.all_calls.Given as goal

abbrev pub invariant-loop-part : goal.invariant-loop-part
invariant-loop-part g l = (l.all.parts + length l.seats.items ≡ length l.fn.seats.items) × (l.all.amount + calls_of l.seats.items ≡ calls_of l.fn.seats.items)

abbrev pub decreases-loop-part : goal.decreases-loop-part
decreases-loop-part g l = goal.left-loop-part g l
