use Rattle.std.proofs.Common.{◌≡◌, ◌-◌, ◌≤◌, length}
use Rattle.kr_survey.specs.Joins.{lists}
use Rattle.kr_deque.proofs.Cuts.{filled}
use Rattle.kr_deque.proofs.cutting.pad.Given as goal

abbrev pub invariant-loop-alloc : goal.invariant-loop-alloc
invariant-loop-alloc l =
    (length l.fn.spans.items ≤ length l.spans.items) × (length l.spans.items ≤ l.count)
    × (lists l.spans.items ≡ filled (lists l.fn.spans.items) (length l.spans.items - length l.fn.spans.items))

abbrev pub decreases-loop-alloc : goal.decreases-loop-alloc
decreases-loop-alloc l = l.count - length l.spans.items
