use Rattle.kr_core.specs.States.{place_of}
use Rattle.kr_core.proofs.Places.{place_step, place_nowhere}
use Rattle.kr_core.proofs.fits.place.Goals as goal

pub loop-i-preserved : goal.loop-i-preserved
loop-i-preserved c =
    place_step c.args.number c.loop-i.i (place_of c.args.number c.args.segments.now) c.args.segments.now c.index-segments-i.result c.loop-i-test.true c.index-segments-i.is c.if-segment-number.false c.loop-i.invariant

pub returns-clause-none : goal.returns-clause-none
returns-clause-none c = place_nowhere c.args.number c.loop-i.i c.args.segments.now c.loop-i-test.false c.loop-i.auto.i-end c.loop-i.invariant
