use Rattle.std.proofs.Common.{◌≤◌, ◌+◌, ℕ, drop, length}
use Rattle.kr_mean.specs.Choices.{IsUsed}
use Rattle.kr_iso.proofs.choice.is_reached.Given as goal

abbrev pub invariant-loop-left : goal.invariant-loop-left
invariant-loop-left g l = record {
  inside : l.left ≤ length l.path;
  none : (k : ℕ) → l.object.number ≤ k + 1 → IsUsed (g.S.Slots.space l.slots) (drop l.left l.path) l.object.domain k → ⊥;
}

abbrev pub decreases-loop-left : goal.decreases-loop-left
decreases-loop-left g l = l.left
