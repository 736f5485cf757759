use Rattle.std.proofs.Common.{◌≡◌, ◌≤◌, List, length, take}
use Rattle.std.specs.Prelude.{flat_map}
use Rattle.kr_ast.specs.Arena.{Arena}
use Rattle.kr_classes_table.specs.Table.{is_instance}
use Rattle.kr_classes_table.specs.Rules.{least, past}
use Rattle.kr_classes_members.specs.Shown.{field_shown}
use Rattle.kr_classes.specs.Faults.{fault_at}
use Rattle.kr_classes.proofs.field_rules.extra_field.Given as goal

abbrev pub invariant-loop-field : goal.invariant-loop-field
invariant-loop-field l = record {
  small : l.seen ≤ l.field-index;
  counted : (files : List Arena) → l.seen ≡ length (flat_map (λ f. is_instance (field_shown files f)) (take l.field-index l.field-items));
  so : (files : List Arena) → fault_at 8 l.first ≡ least (past l.room (flat_map (λ f. is_instance (field_shown files f)) (take l.field-index l.field-items)));
}
