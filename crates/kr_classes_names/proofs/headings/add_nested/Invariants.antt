use Rattle.std.proofs.Common.{◌≡◌, ◌++◌, map, All, take}
use Rattle.std.specs.Prelude.{Some, flat_map}
use Rattle.kr_ast.specs.Arena.{tree_in}
use Rattle.kr_classes_table.specs.Table.{heading_of}
use Rattle.kr_classes_names.specs.Shown.{IsHeading, heading_shown}
use Rattle.kr_ast.specs.Files.{file_at}
use Rattle.kr_classes_names.proofs.headings.add_nested.Given as goal

abbrev pub invariant-loop-member : goal.invariant-loop-member
invariant-loop-member l = record {
  stands : All (IsHeading l.trees) l.headings.items;
  shown : map (heading_shown l.trees) l.headings.items
      ≡ map (heading_shown l.trees) l.initial.headings.items ++ flat_map (λ n. heading_of (Some l.outer) (tree_in (file_at l.trees l.file) n)) (take l.member-index l.members);
}
