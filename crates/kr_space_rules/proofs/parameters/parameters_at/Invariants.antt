use Rattle.std.proofs.Common.{◌≡◌, map, All, take}
use Rattle.std.specs.Prelude.{flat_map}
use Rattle.kr_ast.specs.Arena.{tree_in}
use Rattle.kr_classes_table.specs.Table.{parameter_in}
use Rattle.kr_ast.specs.Files.{file_at}
use Rattle.kr_classes_members.specs.Shown.{headings_in}
use Rattle.kr_space_rules.specs.Parameters.{IsParameter, parameter_shown}
use Rattle.kr_space_rules.proofs.parameters.parameters_at.Given as goal

abbrev pub invariant-loop-node : goal.invariant-loop-node
invariant-loop-node l = record {
  stand : All (IsParameter l.trees) l.found.items;
  shown : map (parameter_shown l.trees) l.found.items ≡ flat_map (λ n. parameter_in (headings_in l.trees) (tree_in (file_at l.trees l.file) n)) (take l.node-index l.nodes);
}
