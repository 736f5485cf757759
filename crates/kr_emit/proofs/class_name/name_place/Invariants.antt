use Rattle.std.proofs.Common.{◌≡◌, take}
use Rattle.std.specs.Prelude.{flat_map}
use Rattle.kr_classes_names.specs.Shown.{heading_shown}
use Rattle.kr_classes_table.specs.Rules.{least}
use Rattle.kr_classes.specs.Faults.{fault_at}
use Rattle.kr_emit_meaning.specs.Buildable.{name_fault}
use Rattle.kr_emit.proofs.class_name.name_place.Given as goal

abbrev pub invariant-loop-heading : goal.invariant-loop-heading
invariant-loop-heading l = fault_at 2 l.first ≡ least (flat_map (λ h. name_fault (heading_shown l.trees h)) (take l.heading-index l.heading-items))
