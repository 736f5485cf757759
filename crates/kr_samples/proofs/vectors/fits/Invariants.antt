use Rattle.kr_space_layout.specs.Bounds.{bare}
use Rattle.kr_samples.proofs.Fitting.{AreFitting}
use Rattle.kr_samples.proofs.vectors.fits.Given as goal

abbrev pub invariant-slots : goal.invariant-slots
invariant-slots l = AreFitting (bare l.layout) l.vector l.slot
