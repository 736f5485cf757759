use Rattle.std.proofs.Common.{List, ◌++◌, take}
use Rattle.std.specs.Prelude.{flat_map}
use Rattle.kr_classes_table.specs.Types.{JavaType}
use Rattle.kr_classes_members.specs.Rosters.{method_numbered}
use Rattle.kr_mean.specs.Program.{program_with}
use Rattle.kr_mean.specs.Code.{Node, code_of_method}
use Rattle.kr_code_members.specs.Nodes.{table}
use Rattle.kr_pure.specs.Entries.{Enter}
use Rattle.kr_pure.proofs.members.add_bodies.Given as goal

abbrev pub invariant-loop-method : goal.invariant-loop-method
invariant-loop-method l =
    (before : List Node) (arrays : List JavaType) → Enter l._program before l.fn.entries.items
    → Enter l._program (before ++ flat_map (λ m. code_of_method (program_with (table l._program) arrays) (method_numbered (table l._program) m)) (take l.method-index l.methods)) l.entries.items
