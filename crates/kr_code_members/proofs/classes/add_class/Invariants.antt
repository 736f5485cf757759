use Rattle.std.proofs.Common.{ℕ, List, ◌++◌, take}
use Rattle.std.specs.Prelude.{Some, flat_map}
use Rattle.std.specs.List.{AllZip}
use Rattle.kr_classes_table.specs.Table.{Heading, heading_of}
use Rattle.kr_code_members.specs.Nodes.{node_tree}
use Rattle.kr_code_members.specs.Walk.{HasHeading}
use Rattle.kr_code_members.proofs.classes.add_class.Given as goal

abbrev pub invariant-loop-member : goal.invariant-loop-member
invariant-loop-member l = (k : ℕ) (before : List Heading) → AllZip (HasHeading l.program) before l.initial.classes.items
    → AllZip (HasHeading l.program) (before ++ flat_map (λ n. heading_of (Some k) (node_tree l.program l.file n)) (take l.member-index l.member-items)) l.classes.items
