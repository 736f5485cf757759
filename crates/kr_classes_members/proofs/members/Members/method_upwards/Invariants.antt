use Rattle.std.proofs.Common.{◌≡◌, ◌-◌, List}
use Rattle.kr_ast.specs.Arena.{Arena}
use Rattle.kr_classes_table.specs.Table.{method_on, line_within}
use Rattle.kr_classes_members.specs.Shown.{table_in}
use Rattle.kr_classes_members.specs.Kept.{AreMembers}
use Rattle.kr_classes_members.proofs.members.Members.method_upwards.Given as goal

abbrev pub invariant-loop-step : goal.invariant-loop-step
invariant-loop-step l = (files : List Arena) → AreMembers files l.self → method_on (table_in files) (line_within (l.steps - l.step) (table_in files) l.at) l.name ≡ method_on (table_in files) (line_within l.steps (table_in files) l.fn.from) l.name
