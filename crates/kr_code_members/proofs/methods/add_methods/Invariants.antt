use Rattle.std.proofs.Common.{List, ◌++◌, take}
use Rattle.std.specs.Prelude.{flat_map}
use Rattle.std.specs.List.{AllZip}
use Rattle.kr_classes_table.specs.Table.{Method, methods_in}
use Rattle.kr_code_members.specs.Nodes.{IsMethodNode, node_tree, table}
use Rattle.kr_code_members.proofs.methods.add_methods.Given as goal

abbrev pub invariant-loop-member : goal.invariant-loop-member
invariant-loop-member l = (before : List Method) → AllZip (IsMethodNode l.program) before l.initial.methods.items
    → AllZip (IsMethodNode l.program) (before ++ flat_map (λ n. methods_in (table l.program).headings l.class (node_tree l.program l.file n)) (take l.member-index l.members)) l.methods.items
