use Rattle.std.proofs.Common.{◌≡◌, true, take}
use Rattle.std.specs.Prelude.{flat_map}
use Rattle.kr_classes_table.specs.Rules.{break_if, least}
use Rattle.kr_classes.specs.Faults.{fault_at}
use Rattle.kr_emit.proofs.construction.constructor_place.Given as goal

abbrev pub invariant-loop-constructor : goal.invariant-loop-constructor
invariant-loop-constructor l = fault_at 1 l.first ≡ least (flat_map (λ k. break_if true 1 k.place) (take l.constructor-index l.constructor-items))
