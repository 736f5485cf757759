use Rattle.std.proofs.Common.{◌≡◌, map, All, take}
use Rattle.std.specs.Prelude.{flat_map}
use Rattle.kr_ast.specs.Arena.{root}
use Rattle.kr_classes_table.specs.Table.{items}
use Rattle.kr_ast.specs.Files.{IsNode, tree_of_node}
use Rattle.kr_classes_names.proofs.headings.file_items.Given as goal

abbrev pub invariant-loop-file : goal.invariant-loop-file
invariant-loop-file l = record {
  stands : All (IsNode l.trees) l.nodes.items;
  shown : map (tree_of_node l.trees) l.nodes.items ≡ flat_map (λ a. items (root a)) (take l.file l.trees);
}
