use Rattle.std.proofs.Common.{◌≡◌, ◌+◌, ◌-◌, ◌++◌, List}
use Rattle.kr_ast.specs.Arena.{Arena}
use Rattle.kr_classes_table.specs.Table.{line_of, line_within}
use Rattle.kr_classes_members.specs.Shown.{table_in}
use Rattle.kr_classes_members.specs.Kept.{AreMembers, class_count}
use Rattle.kr_classes_members.proofs.members.Members.line.Given as goal

abbrev pub invariant-loop-step : goal.invariant-loop-step
invariant-loop-step l = (files : List Arena) → AreMembers files l.self → l.line.items ++ line_within (class_count l.self + 1 - l.step) (table_in files) l.at ≡ line_of (table_in files) l.class
