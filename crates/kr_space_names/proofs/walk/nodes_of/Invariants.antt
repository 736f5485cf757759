use Rattle.std.specs.Prelude.{reverse}
use Rattle.kr_space_names.proofs.Walked.{IsWalked, weight}
use Rattle.kr_space_names.proofs.walk.nodes_of.Given as goal

abbrev pub invariant-loop-node : goal.invariant-loop-node
invariant-loop-node l = IsWalked l.tree l.found.items l.left.items

abbrev pub decreases-loop-node : goal.decreases-loop-node
decreases-loop-node l = weight (reverse l.left.items)
