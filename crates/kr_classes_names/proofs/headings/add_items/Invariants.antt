use Rattle.std.proofs.Common.{◌≡◌, ◌++◌, map, All, take}
use Rattle.kr_ast.specs.Arena.{tree_in}
use Rattle.kr_ast.specs.Files.{IsNode, file_at, tree_of_node}
use Rattle.kr_classes_names.proofs.headings.add_items.Given as goal

abbrev pub invariant-loop-node : goal.invariant-loop-node
invariant-loop-node l = record {
  stands : All (IsNode l.trees) l.nodes.items;
  shown : map (tree_of_node l.trees) l.nodes.items ≡ map (tree_of_node l.trees) l.initial.nodes.items ++ map (tree_in (file_at l.trees l.file)) (take l.node-index l.node-items);
}
