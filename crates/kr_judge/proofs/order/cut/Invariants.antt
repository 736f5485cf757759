use Rattle.std.proofs.Common.{◌≡◌, take, length}
use Rattle.kr_judge.specs.Orders.{AreMarked, EachOnce}
use Rattle.kr_judge.proofs.order.cut.Given as goal

abbrev pub invariant-slots : goal.invariant-slots
invariant-slots l = AreMarked l.marks.items l.slots.items × EachOnce l.slots.items × (take l.count l.slots.items ≡ take l.count l.fn.slots.items)

abbrev pub decreases-slots : goal.decreases-slots
decreases-slots l = length l.slots.items
