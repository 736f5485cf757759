use Rattle.std.proofs.Common.{◌≡◌, [], take}
use Rattle.std.specs.Prelude.{flat_map}
use Rattle.kr_classes_table.specs.Table.{constructors_in}
use Rattle.kr_code_members.specs.Nodes.{node_tree, table}
use Rattle.kr_code_members.proofs.constructors.own_constructor.Given as goal

abbrev pub invariant-loop-member : goal.invariant-loop-member
invariant-loop-member l = flat_map (λ n. constructors_in (table l.program).headings (node_tree l.program l.file n)) (take l.member-index l.members) ≡ []
