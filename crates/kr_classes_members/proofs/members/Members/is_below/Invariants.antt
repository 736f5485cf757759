use Rattle.std.proofs.Common.{◌≡◌, ◌+◌, ◌-◌, List}
use Rattle.kr_ast.specs.Arena.{Arena}
use Rattle.kr_classes_table.specs.Table.{is_among, is_below, line_within}
use Rattle.kr_classes_members.specs.Shown.{table_in}
use Rattle.kr_classes_members.specs.Kept.{AreMembers, class_count}
use Rattle.kr_classes_members.proofs.members.Members.is_below.Given as goal

abbrev pub invariant-loop-step : goal.invariant-loop-step
invariant-loop-step l = (files : List Arena) → AreMembers files l.self → is_among l.other (line_within (class_count l.self + 1 - l.step) (table_in files) l.at) ≡ is_below (table_in files) l.class l.other
