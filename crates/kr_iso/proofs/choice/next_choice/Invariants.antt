use Rattle.std.proofs.Common.{ℕ, ◌<◌, ◌≤◌}
use Rattle.kr_mean.specs.Choices.{IsAllowed}
use Rattle.kr_iso.specs.Objects.{shown}
use Rattle.kr_iso.specs.Unused.{MayNotStand}
use Rattle.kr_iso.proofs.choice.next_choice.Given as goal

abbrev pub invariant-loop-index : goal.invariant-loop-index
invariant-loop-index g l = record {
  none : (k : ℕ) → l.least ≤ k → k < l.index → IsAllowed (g.S.Slots.space l.slots) l.path l.slot k → ⊥;
  barred : MayNotStand (g.S.Slots.space l.slots) l.path (shown l.barred);
}
