use Rattle.std.proofs.Common.{◌≡◌, length}
use Rattle.kr_mean.specs.Heaps.{heap_of}
use Rattle.kr_mean.specs.Space.{IsVector, space_of}
use Rattle.kr_space_layout.specs.Bounds.{bare}
use Rattle.kr_build.specs.Renewed.{IsSameBut}
use Rattle.kr_build.proofs.updates.update_within.Given as goal

abbrev pub invariant-each : goal.invariant-each
invariant-each l = IsVector (space_of (bare l.layout)) l.built × (l.heap ≡ heap_of (bare l.layout) l.built) × (length l.built ≡ length l.fn.built) × IsSameBut l.built l.vector l.slot l.high
