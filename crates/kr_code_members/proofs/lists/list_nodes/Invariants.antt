use Rattle.std.proofs.Common.{◌≡◌, ◌++◌, map, All}
use Rattle.kr_classes_table.specs.Table.{items}
use Rattle.kr_code_members.specs.Nodes.{node_scope, node_tree}
use Rattle.kr_code_members.specs.Walk.{AreStill, IsIn}
use Rattle.kr_code_members.proofs.lists.list_nodes.Given as goal

abbrev pub invariant-loop-item : goal.invariant-loop-item
invariant-loop-item l = let s = node_scope l.program l.file l.fn.list in record {
  at : IsIn l.program l.file s l.at;
  still : AreStill s (items (node_tree l.program l.file l.at));
  stand : All (IsIn l.program l.file s) l.nodes.items;
  shown : map (node_tree l.program l.file) l.nodes.items ++ items (node_tree l.program l.file l.at) ≡ items (node_tree l.program l.file l.fn.list);
}

abbrev pub decreases-loop-item : goal.decreases-loop-item
decreases-loop-item l = l.at
