use Rattle.std.proofs.Common.{List, ◌++◌, take}
use Rattle.std.specs.Prelude.{flat_map}
use Rattle.std.specs.List.{AllZip}
use Rattle.kr_classes_table.specs.Table.{Field}
use Rattle.kr_code_members.specs.Nodes.{IsFieldNode}
use Rattle.kr_code_members.specs.Walk.{declared_on}
use Rattle.kr_code_members.proofs.fields.add_declared.Given as goal

abbrev pub invariant-loop-declarator : goal.invariant-loop-declarator
invariant-loop-declarator l = (before : List Field) → AllZip (IsFieldNode l.program) before l.initial.fields.items
    → AllZip (IsFieldNode l.program) (before ++ flat_map (declared_on l.program l.file l.class l.line) (take l.declarator-index l.declarators)) l.fields.items
