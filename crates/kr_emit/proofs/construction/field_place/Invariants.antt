use Rattle.std.proofs.Common.{◌≡◌, take}
use Rattle.std.specs.Prelude.{flat_map}
use Rattle.kr_classes_members.specs.Shown.{field_shown}
use Rattle.kr_classes_table.specs.Rules.{least}
use Rattle.kr_classes.specs.Faults.{fault_at}
use Rattle.kr_emit_meaning.specs.Buildable.{field_fault}
use Rattle.kr_emit.proofs.construction.field_place.Given as goal

abbrev pub invariant-loop-field : goal.invariant-loop-field
invariant-loop-field l = fault_at 1 l.first ≡ least (flat_map (λ f. field_fault (field_shown l.trees f)) (take l.field-index l.field-items))
