use Rattle.std.proofs.Common.{◌<◌, ◌≤◌}
use Rattle.kr_parse_trees.specs.Chain.{Folding}
use Rattle.kr_parse_trees.proofs.builder.Builder.compare.Given as goal

abbrev pub invariant-loop-depth : goal.invariant-loop-depth
invariant-loop-depth l = record { folds : Folding l.fn.self.forest l.fn.self.values l.self.forest l.self.values l.depth l.bottom l.past; from : l.start ≤ l.depth; under : l.depth < l.bottom }

abbrev pub decreases-loop-depth : goal.decreases-loop-depth
decreases-loop-depth l = l.depth
