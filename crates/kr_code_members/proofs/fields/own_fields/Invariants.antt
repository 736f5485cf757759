use Rattle.std.proofs.Common.{take}
use Rattle.std.specs.Prelude.{flat_map}
use Rattle.std.specs.List.{AllZip}
use Rattle.kr_classes_table.specs.Table.{fields_in}
use Rattle.kr_code_members.specs.Nodes.{IsFieldNode, node_tree, table}
use Rattle.kr_code_members.proofs.fields.own_fields.Given as goal

abbrev pub invariant-loop-member : goal.invariant-loop-member
invariant-loop-member l = AllZip (IsFieldNode l.program) (flat_map (λ n. fields_in (table l.program).headings l.class (node_tree l.program l.file n)) (take l.member-index l.members)) l.fields.items
