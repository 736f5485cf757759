use Rattle.std.proofs.Common.{◌≡◌, ℕ, take}
use Rattle.std.specs.Prelude.{flat_map}
use Rattle.kr_emit_meaning.specs.Builders.{referred}
use Rattle.kr_mean.specs.Heaps.{distinct}
use Rattle.kr_mean.specs.Runs.{is_same_number}
use Rattle.kr_value.specs.declared.value.Value.{Value}
use Rattle.kr_emit.proofs.objects.objects_in.Given as goal

abbrev pub invariant-loop-entry : goal.invariant-loop-entry
invariant-loop-entry l = l.objects.items ≡ distinct is_same_number (flat_map (λ (p : ℕ × Value). referred p.1) (take l.entry-index l.structure))
