use Rattle.std.proofs.Common.{◌≡◌, drop}
use Rattle.kr_judge.specs.Orders.{with_slots}
use Rattle.kr_judge.proofs.accesses.add_slots.Given as goal

-- the rest gives what the whole gives
abbrev pub invariant-loop-slot : goal.invariant-loop-slot
invariant-loop-slot l = with_slots l.fn.order l.slots ≡ with_slots l.order (drop l.slot-index l.slots)
