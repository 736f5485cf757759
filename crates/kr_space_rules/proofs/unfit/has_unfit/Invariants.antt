use Rattle.std.proofs.Common.{◌≡◌, ◌<◌, drop}
use Rattle.kr_classes_table.specs.Types.{JavaType}
use Rattle.std.specs.Prelude.{not}
use Rattle.std.specs.List.{list_any}
use Rattle.kr_space_meaning.specs.Faults.{fits}
use Rattle.kr_classes_names.specs.Types.{Extends, IsTypeNumber, count}
use Rattle.kr_space_rules.specs.Classes.{table_of}
use Rattle.kr_space_rules.proofs.unfit.has_unfit.Given as goal

abbrev pub invariant-loop-item : goal.invariant-loop-item
invariant-loop-item l = record {
  is : (t : JavaType) → IsTypeNumber l.initial.types l.number t → list_any (λ i. not (fits (table_of l.classes) l.document t i)) l.items ≡ list_any (λ i. not (fits (table_of l.classes) l.document t i)) (drop l.item-index l.items);
  within : l.number < count l.types;
  extends : Extends l.initial.types l.types;
}
