use Rattle.std.proofs.Common.{◌≡◌, drop, map}
use Rattle.std.specs.Prelude.{flat_map}
use Rattle.kr_ast.specs.Arena.{root, tree_in}
use Rattle.kr_classes_table.specs.Arrays.{arrays_named}
use Rattle.kr_classes_table.specs.Table.{headings_of}
use Rattle.kr_ast.specs.Files.{file_at}
use Rattle.kr_classes_names.specs.Numbers.{AreNodeTypes}
use Rattle.kr_classes_names.specs.Types.{Extends}
use Rattle.kr_space_names.specs.Collected.{AreNumbers, IsClosed, collected, types_shown}
use Rattle.kr_space_names.proofs.named.add_all_named.Given as goal

abbrev pub invariant-loop-node : goal.invariant-loop-node
invariant-loop-node l = record {
  numbers : AreNodeTypes l.trees l.types l.numbers;
  arrays : AreNumbers l.types l.arrays;
  closed : IsClosed (types_shown l.types l.arrays);
  extends : Extends l.initial.types l.types;
  shown : collected (types_shown l.initial.types l.initial.arrays) (flat_map (arrays_named (headings_of (map root l.trees))) (map (tree_in (file_at l.trees l.file)) l.nodes))
      ≡ collected (types_shown l.types l.arrays) (flat_map (arrays_named (headings_of (map root l.trees))) (map (tree_in (file_at l.trees l.file)) (drop l.node-index l.nodes)));
}
