use Rattle.std.proofs.Common.{◌≡◌, drop, map}
use Rattle.std.specs.Prelude.{flat_map}
use Rattle.kr_ast.specs.Arena.{root}
use Rattle.kr_classes_table.specs.Arrays.{array_types_of, arrays_named}
use Rattle.kr_classes_table.specs.Nodes.{nodes}
use Rattle.kr_classes_table.specs.Table.{headings_of}
use Rattle.kr_classes_names.specs.Numbers.{AreNodeTypes}
use Rattle.kr_classes_names.specs.Types.{Extends}
use Rattle.kr_space_names.specs.Collected.{AreNumbers, IsClosed, collected, types_shown}
use Rattle.kr_space_names.proofs.named.array_types.Given as goal

abbrev pub invariant-loop-file : goal.invariant-loop-file
invariant-loop-file l = record {
  numbers : AreNodeTypes l.trees l.types l.numbers;
  arrays : AreNumbers l.types l.arrays;
  closed : IsClosed (types_shown l.types l.arrays);
  extends : Extends l.fn.types l.types;
  shown : array_types_of (map root l.trees) ≡ collected (types_shown l.types l.arrays) (flat_map (arrays_named (headings_of (map root l.trees))) (flat_map nodes (map root (drop l.file l.trees))));
}
