use Rattle.std.proofs.Common.{◌≡◌, ◌-◌, List}
use Rattle.kr_ast.specs.Arena.{Arena}
use Rattle.kr_classes_table.specs.Table.{method_named, method_on, line_within}
use Rattle.kr_classes_members.specs.Shown.{table_in}
use Rattle.kr_classes_members.specs.Kept.{AreMembers}
use Rattle.kr_classes_members.specs.Rosters.{IsRoster}
use Rattle.kr_classes_members.proofs.roster.Roster.method_named.Given as goal

abbrev pub invariant-loop-step : goal.invariant-loop-step
invariant-loop-step l = (files : List Arena) → AreMembers files l.members → IsRoster files l.self → method_on (table_in files) (line_within (l.steps - l.step) (table_in files) l.at) l.name ≡ method_named (table_in files) l.fn.class l.name
