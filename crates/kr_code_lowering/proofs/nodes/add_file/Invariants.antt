use Rattle.std.proofs.Common.{◌+◌, length}
use Rattle.kr_classes_names.specs.ListedTypes.{IsGrown}
use Rattle.kr_code_lowering.specs.Numbered.{IsCodedTo}
use Rattle.kr_code_lowering.specs.Resolving.{AreNodes}
use Rattle.kr_code_lowering.proofs.nodes.add_file.Given as goal

abbrev pub invariant-loop-node : goal.invariant-loop-node
invariant-loop-node l = record {
  before : IsCodedTo l.program (l.first + l.node) (length l.nodes.items);
  names : IsGrown l.fn.names l.names;
  links : IsGrown l.fn.links l.links;
  nodes : AreNodes l.program l.arrays l.names l.links l.nodes.items;
}
