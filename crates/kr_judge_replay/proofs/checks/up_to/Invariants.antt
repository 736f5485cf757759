use Rattle.std.proofs.Common.{◌≤◌, length}
use Rattle.kr_judge_replay.proofs.checks.up_to.Given as goal

abbrev pub invariant-checks : goal.invariant-checks
invariant-checks l = l.left ≤ length l.checks

abbrev pub decreases-checks : goal.decreases-checks
decreases-checks l = l.left
