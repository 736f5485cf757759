use Rattle.std.proofs.Common.{◌≡◌, ◌++◌, length, map, drop}
use Rattle.kr_classes_table.specs.Table.{items}
use Rattle.kr_classes_names.specs.ListedTypes.{IsGrown}
use Rattle.kr_classes_names.specs.Types.{type_at}
use Rattle.kr_code_members.specs.Nodes.{table}
use Rattle.kr_code_lowering.specs.Bodies.{parameter_type}
use Rattle.kr_code_lowering.specs.Sites.{IsSite, tree_at}
use Rattle.kr_code_lowering.proofs.parameters.parameter_links.Given as goal

abbrev pub invariant-loop-item : goal.invariant-loop-item
invariant-loop-item l = record {
  site : IsSite l.program l.at;
  start : l.start ≡ length l.fn.links;
  grown : IsGrown l.fn.links l.links;
  ahead : map (type_at l.program.table.types) (drop l.start l.links) ++ map (parameter_type (table l.program).headings) (items (tree_at l.program l.at)) ≡ map (parameter_type (table l.program).headings) (items (tree_at l.program l.fn.list));
}

abbrev pub decreases-loop-item : goal.decreases-loop-item
decreases-loop-item l = l.at.node
