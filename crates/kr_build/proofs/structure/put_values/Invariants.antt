use Rattle.std.proofs.Common.{◌≡◌, take}
use Rattle.std.specs.Prelude.{map}
use Rattle.kr_mean.specs.Heaps.{value_at}
use Rattle.kr_space_layout.specs.Bounds.{bare}
use Rattle.kr_build.proofs.structure.put_values.Given as goal

-- the slots so far, with their values
abbrev pub invariant-loop-slot : goal.invariant-loop-slot
invariant-loop-slot l = l.structure ≡ map (λ s. (s, value_at (bare l.layout) l.vector s)) (take l.slot-index l.places)
