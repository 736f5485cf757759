use Rattle.std.proofs.Common.{◌≡◌, ◌++◌, drop}
use Rattle.std.specs.Prelude.{map}
use Rattle.kr_mean.specs.Heaps.{heap_object}
use Rattle.kr_mean.specs.Problem.{objects_from}
use Rattle.kr_space_layout.specs.Bounds.{bare}
use Rattle.kr_build.proofs.heap.build.Given as goal

abbrev pub invariant-loop-domain : goal.invariant-loop-domain
invariant-loop-domain l =
    map (heap_object (bare l.layout) l.vector) (objects_from 0 l.layout.domains)
    ≡ l.heap ++ map (heap_object (bare l.layout) l.vector) (objects_from l.domain (drop l.domain l.layout.domains))
