use Rattle.std.proofs.Common.{◌-◌, ◌≤◌, length}
use Rattle.kr_parse_trees.specs.Chain.{AreNamed}
use Rattle.kr_parse_trees.proofs.builder.Builder.below_names.Given as goal

abbrev pub invariant-loop-depth : goal.invariant-loop-depth
invariant-loop-depth l = record { names : AreNamed l.self.values l.start l.depth; from : l.start ≤ l.depth; within : l.depth ≤ length l.self.values }

abbrev pub decreases-loop-depth : goal.decreases-loop-depth
decreases-loop-depth l = length l.self.values - l.depth
