use Rattle.std.proofs.Common.{map, take}
use Rattle.kr_pure.specs.Found.{AreFound, IsAdded}
use Rattle.kr_pure.specs.Reach.{beside}
use Rattle.kr_pure.proofs.reaching.add_parts.Given as goal

abbrev pub invariant-loop-part : goal.invariant-loop-part
invariant-loop-part l = record {
  found : AreFound l.program.trees.items l.found;
  added : IsAdded l.fn.found.nodes.items (map (beside l.at) (take l.part-index l.part-items)) l.found.nodes.items;
}
