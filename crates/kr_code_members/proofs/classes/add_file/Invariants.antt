use Rattle.std.proofs.Common.{List, ◌++◌, map, take}
use Rattle.std.specs.List.{AllZip}
use Rattle.kr_ast.specs.Tree.{Tree}
use Rattle.kr_classes_table.specs.Table.{headings_from}
use Rattle.kr_code_members.specs.Nodes.{node_tree}
use Rattle.kr_code_members.specs.Walk.{HasHeading}
use Rattle.kr_code_members.proofs.classes.add_file.Given as goal

abbrev pub invariant-loop-top : goal.invariant-loop-top
invariant-loop-top l = (before : List Tree) → AllZip (HasHeading l.program) (headings_from 0 before) l.initial.classes.items
    → AllZip (HasHeading l.program) (headings_from 0 (before ++ map (node_tree l.program l.file) (take l.top-index l.top-items))) l.classes.items
