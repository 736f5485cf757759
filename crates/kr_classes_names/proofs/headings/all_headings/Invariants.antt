use Rattle.std.proofs.Common.{◌≡◌, map, All, take}
use Rattle.kr_classes_table.specs.Table.{headings_from}
use Rattle.kr_classes_names.specs.Shown.{IsHeading, heading_shown}
use Rattle.kr_ast.specs.Files.{tree_of_node}
use Rattle.kr_classes_names.proofs.headings.all_headings.Given as goal

abbrev pub invariant-loop-top : goal.invariant-loop-top
invariant-loop-top l = record {
  stands : All (IsHeading l.trees) l.headings.items;
  shown : map (heading_shown l.trees) l.headings.items ≡ headings_from 0 (map (tree_of_node l.trees) (take l.top-index l.top-items));
}
