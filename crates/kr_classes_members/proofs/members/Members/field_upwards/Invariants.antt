use Rattle.std.proofs.Common.{◌≡◌, ◌-◌, List}
use Rattle.kr_ast.specs.Arena.{Arena}
use Rattle.kr_classes_table.specs.Table.{field_on, line_within}
use Rattle.kr_classes_members.specs.Shown.{table_in}
use Rattle.kr_classes_members.specs.Kept.{AreMembers}
use Rattle.kr_classes_members.proofs.members.Members.field_upwards.Given as goal

abbrev pub invariant-loop-step : goal.invariant-loop-step
invariant-loop-step l = (files : List Arena) → AreMembers files l.self → field_on (table_in files) (line_within (l.steps - l.step) (table_in files) l.at) l.name ≡ field_on (table_in files) (line_within l.steps (table_in files) l.fn.from) l.name
