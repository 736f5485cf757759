use Rattle.kr_mean.specs.Space.{IsVector, space_of}
use Rattle.kr_space_layout.specs.Bounds.{bare}
use Rattle.kr_samples.proofs.vectors.vector_of.Given as goal

abbrev pub invariant-loop-slot : goal.invariant-loop-slot
invariant-loop-slot l = IsVector (space_of (bare l.layout)) l.vector
