use Rattle.std.proofs.Common.{◌≡◌, ◌<◌, ◌++◌, length, map, All}
use Rattle.kr_ast.specs.Arena.{tree_in}
use Rattle.kr_classes_table.specs.Table.{items}
use Rattle.kr_classes_names.proofs.lists.items.Given as goal

abbrev pub invariant-loop-item : goal.invariant-loop-item
invariant-loop-item l = record {
  at : l.at < length l.tree.entries;
  within : All (λ n. n < length l.tree.entries) l.nodes.items;
  shown : map (tree_in l.tree) l.nodes.items ++ items (tree_in l.tree l.at) ≡ items (tree_in l.tree l.fn.list);
}

abbrev pub decreases-loop-item : goal.decreases-loop-item
decreases-loop-item l = l.at
