use Rattle.std.proofs.Common.{◌≡◌, ℕ, ◌-◌, ◌<◌, ◌≤◌, All, length}
use Rattle.std.specs.Prelude.{Contains, Some, slice_get}
use Rattle.kr_ast.specs.declared.files.NodeId.{NodeId}
use Rattle.kr_pure.specs.Found.{AreFound}
use Rattle.kr_types.specs.Programs.{all_entries}
use Rattle.kr_pure.specs.Reach.{IsBelow, IsFollowed}
use Rattle.kr_pure.proofs.reaching.walk_on.Given as goal

abbrev pub invariant-loop-next : goal.invariant-loop-next
invariant-loop-next l = record {
  found : AreFound l.problem.program.trees.items l.found;
  reached : l.next ≤ length l.found.nodes.items;
  kept : (n : NodeId) → Contains l.fn.found.nodes.items n → Contains l.found.nodes.items n;
  followed : (k : ℕ) (n : NodeId) → k < l.next → slice_get l.found.nodes.items k ≡ Some n → IsFollowed l.problem l.found.nodes.items n;
  below : All (IsBelow l.problem) l.found.nodes.items;
}

abbrev pub decreases-loop-next : goal.decreases-loop-next
decreases-loop-next l = length (all_entries l.problem.program.trees.items) - l.next
