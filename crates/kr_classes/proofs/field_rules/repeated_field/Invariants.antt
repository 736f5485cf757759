use Rattle.std.proofs.Common.{◌≡◌, map, take}
use Rattle.kr_classes_table.specs.Rules.{least, repeated}
use Rattle.kr_classes_members.specs.Shown.{table_in, field_name}
use Rattle.kr_classes.specs.Faults.{fault_at, inherited_names}
use Rattle.kr_classes.proofs.field_rules.repeated_field.Given as goal

abbrev pub invariant-loop-number : goal.invariant-loop-number
invariant-loop-number l = fault_at 4 l.first ≡ least (repeated 4 (inherited_names (table_in l.trees) l.class) (map (λ f. (field_name l.trees f, f.place)) (take l.number l.field-items)))
