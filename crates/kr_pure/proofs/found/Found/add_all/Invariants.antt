use Rattle.std.proofs.Common.{take}
use Rattle.kr_pure.specs.Found.{AreFound, IsAdded}
use Rattle.kr_pure.proofs.found.Found.add_all.Given as goal

abbrev pub invariant-loop-at : goal.invariant-loop-at
invariant-loop-at l = record {
  found : AreFound l.trees l.self;
  added : IsAdded l.fn.self.nodes.items (take l.at-index l.nodes) l.self.nodes.items;
}
