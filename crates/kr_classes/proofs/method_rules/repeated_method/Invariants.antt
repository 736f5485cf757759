use Rattle.std.proofs.Common.{◌≡◌, [], map, take}
use Rattle.kr_classes_table.specs.Rules.{least, repeated}
use Rattle.kr_classes_members.specs.Shown.{method_name}
use Rattle.kr_classes.specs.Faults.{fault_at}
use Rattle.kr_classes.proofs.method_rules.repeated_method.Given as goal

abbrev pub invariant-loop-number : goal.invariant-loop-number
invariant-loop-number l = fault_at 5 l.first ≡ least (repeated 5 [] (map (λ m. (method_name l.trees m, m.place)) (take l.number l.method-items)))
