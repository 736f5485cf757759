use Rattle.std.proofs.Common.{◌≡◌, ◌≤◌, ◌+◌, ◌-◌, min, List, length}
use Rattle.std.specs.Prelude.{flat_map}
use Rattle.kr_ast.specs.Arena.{Arena}
use Rattle.kr_classes_table.specs.Table.{ancestors, is_instance, line_within, own_fields}
use Rattle.kr_classes_members.specs.Kept.{AreMembers, class_count}
use Rattle.kr_classes_members.specs.Shown.{table_in}
use Rattle.kr_classes.proofs.field_rules.inherited_count.Given as goal

abbrev pub invariant-loop-step : goal.invariant-loop-step
invariant-loop-step l = record {
  small : l.total ≤ 32;
  left : (files : List Arena) → AreMembers files l.members
      → min 32 (l.total + length (flat_map is_instance (flat_map (own_fields (table_in files)) (line_within (class_count l.members - l.step) (table_in files) l.at))))
      ≡ min 32 (length (flat_map is_instance (flat_map (own_fields (table_in files)) (ancestors (table_in files) l.class))));
}
