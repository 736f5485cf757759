use Rattle.std.proofs.Common.{take}
use Rattle.std.specs.Prelude.{flat_map}
use Rattle.std.specs.List.{AllZip}
use Rattle.kr_ast.specs.Arena.{root}
use Rattle.kr_classes_table.specs.Table.{headings_from, items}
use Rattle.kr_code_members.specs.Walk.{HasHeading}
use Rattle.kr_code_members.proofs.classes.class_nodes.Given as goal

abbrev pub invariant-loop-file : goal.invariant-loop-file
invariant-loop-file l = AllZip (HasHeading l.program) (headings_from 0 (flat_map (λ a. items (root a)) (take l.file l.program.trees.items))) l.classes.items
