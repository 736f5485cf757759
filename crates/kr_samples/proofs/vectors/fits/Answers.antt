use Rattle.std.proofs.Common.{arith}
use Rattle.kr_space_layout.specs.Bounds.{bare}
use Rattle.kr_samples.proofs.Fitting.{all_fit}
use Rattle.kr_samples.proofs.vectors.fits.Goals as goal

pub returns : goal.returns
returns c = λ _.
    all_fit (bare c.args.layout.now) c.args.vector.now c.slots.slot (omega (arith, c.if-len-slots.false, c.len.ensures, c.slots-2.ensures)) c.slots.invariant (omega (arith, c.slots-test.false, c.slots-slot-end.ensures))
