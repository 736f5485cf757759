use Rattle.std.proofs.Common.{◌≡◌, ◌+◌, ◌++◌, length}
use Rattle.kr_pool_desk.specs.Seats.{calls_of, numbers_below, numbers_of}
use Rattle.kr_pool_desk.proofs.seats.seats_for.Given as goal

abbrev pub invariant-loop-i : goal.invariant-loop-i
invariant-loop-i g l =
    (l.all.parts + l.i ≡ l.workers + 1) × (l.all.amount ≡ 0) × (length l.seats.items + 1 ≡ l.i) × (calls_of l.seats.items ≡ 0) × (numbers_of l.seats.items ++ numbers_below l.all.parts ≡ numbers_below l.workers)
