use Rattle.std.proofs.Common.{◌≡◌, ◌≤◌, List, length, take}
use Rattle.std.specs.Prelude.{flat_map}
use Rattle.kr_ast.specs.Arena.{Arena}
use Rattle.kr_classes_table.specs.Table.{is_instance}
use Rattle.kr_classes_members.specs.Shown.{field_shown}
use Rattle.kr_classes.proofs.field_rules.instance_count.Given as goal

abbrev pub invariant-loop-field : goal.invariant-loop-field
invariant-loop-field l = record {
  small : l.count ≤ l.field-index;
  counted : (files : List Arena) → l.count ≡ length (flat_map (λ f. is_instance (field_shown files f)) (take l.field-index l.field-items));
}
