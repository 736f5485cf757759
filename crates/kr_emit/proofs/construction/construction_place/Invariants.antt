use Rattle.std.proofs.Common.{◌≡◌, [], take}
use Rattle.std.specs.Prelude.{flat_map, if◌then◌else◌}
use Rattle.kr_classes_members.specs.Shown.{table_in}
use Rattle.kr_classes_table.specs.Rules.{least}
use Rattle.kr_classes.specs.Faults.{fault_at}
use Rattle.kr_emit_meaning.specs.Buildable.{construction_faults, is_built}
use Rattle.kr_mean.specs.Problem.{upto}
use Rattle.kr_emit.proofs.construction.construction_place.Given as goal

abbrev pub invariant-loop-class : goal.invariant-loop-class
invariant-loop-class l =
    fault_at 1 l.first ≡ least (flat_map (λ c. if is_built (table_in l.trees) c l.layout.domains then construction_faults (table_in l.trees) c else []) (take l.class (upto l.classes)))
