use Rattle.std.proofs.Common.{◌≡◌, take}
use Rattle.std.specs.Prelude.{flat_map}
use Rattle.kr_classes_table.specs.Rules.{break_if, is_name_among, least, object_methods}
use Rattle.kr_classes_members.specs.Shown.{method_name}
use Rattle.kr_classes.specs.Faults.{fault_at}
use Rattle.kr_classes.proofs.method_rules.object_method.Given as goal

abbrev pub invariant-loop-method : goal.invariant-loop-method
invariant-loop-method l = fault_at 6 l.first ≡ least (flat_map (λ m. break_if (is_name_among (method_name l.trees m) object_methods) 6 m.place) (take l.method-index l.method-items))
