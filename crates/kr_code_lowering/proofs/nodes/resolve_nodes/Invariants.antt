use Rattle.std.proofs.Common.{◌≡◌, length, codes, Some}
use Rattle.std.specs.Prelude.{slice_get}
use Rattle.kr_code_lowering.specs.Numbered.{IsCodedTo}
use Rattle.kr_code_lowering.specs.Origins.{first_node}
use Rattle.kr_code_lowering.specs.Resolving.{AreNodes}
use Rattle.kr_code_lowering.proofs.nodes.resolve_nodes.Given as goal

abbrev pub invariant-loop-file : goal.invariant-loop-file
invariant-loop-file l = record {
  first : l.first ≡ first_node l.program.trees.items l.file;
  before : IsCodedTo l.program l.first (length l.nodes.items);
  names : slice_get l.names 0 ≡ Some (codes "length");
  nodes : AreNodes l.program l.arrays l.names l.links l.nodes.items;
}
