use Rattle.std.proofs.Common.{List, ◌++◌, take}
use Rattle.std.specs.Prelude.{flat_map}
use Rattle.kr_classes_table.specs.Types.{JavaType}
use Rattle.kr_mean.specs.Program.{program_with}
use Rattle.kr_mean.specs.Code.{Node, code_of_class}
use Rattle.kr_code_members.specs.Nodes.{table}
use Rattle.kr_pure.specs.Entries.{Enter}
use Rattle.kr_pure.proofs.members.add_classes.Given as goal

abbrev pub invariant-loop-class : goal.invariant-loop-class
invariant-loop-class l =
    (before : List Node) (arrays : List JavaType) → Enter l.program before l.fn.entries.items
    → Enter l.program (before ++ flat_map (code_of_class (program_with (table l.program) arrays)) (take l.class-index l.classes)) l.entries.items
