use Rattle.std.proofs.Common.{◌≡◌, ◌<◌, map, All, take}
use Rattle.std.specs.Prelude.{flat_map}
use Rattle.kr_ast.specs.Arena.{tree_in}
use Rattle.kr_classes_table.specs.Table.{parameter_in}
use Rattle.kr_ast.specs.Files.{file_at}
use Rattle.kr_classes_members.specs.Shown.{headings_in}
use Rattle.kr_classes_names.specs.Types.{TypeList, count, type_at}
use Rattle.kr_classes_names.specs.Numbers.{AreNodeTypes}
use Rattle.kr_classes.proofs.overriding.parameter_types.Given as goal

abbrev pub invariant-loop-node : goal.invariant-loop-node
invariant-loop-node l = record {
  within : (ts : TypeList) → AreNodeTypes l.trees ts l.numbers → All (λ n. n < count ts) l.found.items;
  shown : (ts : TypeList) → AreNodeTypes l.trees ts l.numbers
      → map (type_at ts) l.found.items ≡ flat_map (λ n. map (λ p. p.type) (parameter_in (headings_in l.trees) (tree_in (file_at l.trees l.file) n))) (take l.node-index l.node-items);
}
