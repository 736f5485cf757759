use Rattle.std.proofs.Common.{◌≡◌, take}
use Rattle.std.specs.Prelude.{flat_map}
use Rattle.kr_classes_table.specs.Rules.{least, overrides}
use Rattle.kr_classes_members.specs.Shown.{table_in, method_shown}
use Rattle.kr_classes.specs.Faults.{fault_at}
use Rattle.kr_classes.specs.Overriding.{is_shared, rule_for}
use Rattle.kr_classes.proofs.overridden.first_override.Given as goal

abbrev pub invariant-loop-method : goal.invariant-loop-method
invariant-loop-method l = fault_at (rule_for l.shared) l.first
    ≡ least (flat_map (λ m. overrides (table_in l.trees) l.class (rule_for l.shared) (is_shared l.shared (table_in l.trees)) (method_shown l.trees m)) (take l.method-index l.method-items))
