use Rattle.std.proofs.Common.{◌≤◌, length}
use Rattle.kr_iso.proofs.limits.let_after.Given as goal

abbrev pub invariant-loop-left : goal.invariant-loop-left
invariant-loop-left g l = l.left ≤ length l.path

abbrev pub decreases-loop-left : goal.decreases-loop-left
decreases-loop-left g l = l.left
