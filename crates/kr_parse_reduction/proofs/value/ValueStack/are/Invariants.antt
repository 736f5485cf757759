use Rattle.std.proofs.Common.{◌≡◌, ◌-◌, ◌≤◌, drop, length}
use Rattle.kr_parse_reduction.specs.Kept.{are}
use Rattle.kr_parse_reduction.proofs.value.ValueStack.are.Given as goal

abbrev pub invariant-loop-depth : goal.invariant-loop-depth
invariant-loop-depth l = (are l.sorts l.self ≡ are (drop l.depth l.sorts) (drop l.depth l.self)) × (l.depth ≤ length l.sorts)

abbrev pub decreases-loop-depth : goal.decreases-loop-depth
decreases-loop-depth l = length l.sorts - l.depth
