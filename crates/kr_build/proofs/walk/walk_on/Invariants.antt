use Rattle.std.proofs.Common.{◌-◌, List, length}
use Rattle.kr_mean.specs.Problem.{DomainObject}
use Rattle.kr_mean.specs.Heaps.{walk}
use Rattle.kr_space_layout.specs.Bounds.{bare}
use Rattle.kr_build.proofs.Walking.{IsWalked}
use Rattle.kr_build.proofs.walk.walk_on.Given as goal

abbrev pub invariant-loop-at : goal.invariant-loop-at
invariant-loop-at l = (os : List DomainObject) × IsWalked (bare l.layout) l.vector l.order.items l.met.items l.at os

abbrev pub decreases-loop-at : goal.decreases-loop-at
decreases-loop-at l = length (walk (bare l.layout) l.vector) - l.at
