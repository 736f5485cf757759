use Rattle.std.proofs.Common.{List, ◌++◌, take}
use Rattle.std.specs.Prelude.{flat_map}
use Rattle.kr_types_meaning.specs.Running.{running}
use Rattle.kr_mean.specs.Code.{Node}
use Rattle.kr_code_members.specs.Nodes.{node_scope, node_tree}
use Rattle.kr_pure.specs.Entries.{Enter, line_code}
use Rattle.kr_pure.proofs.conditions.add_conditions.Given as goal

abbrev pub invariant-loop-line : goal.invariant-loop-line
invariant-loop-line l =
    (before : List Node) → Enter l.program before l.fn.entries.items
    → Enter l.program (before ++ flat_map (λ n. line_code l.side (running (node_scope l.program l.file l.lines)) (node_tree l.program l.file n)) (take l.line-index l.line-items)) l.entries.items
