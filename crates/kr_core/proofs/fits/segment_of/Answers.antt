use Rattle.kr_core.proofs.Places.{found_at}
use Rattle.kr_core.proofs.fits.segment_of.Goals as goal

pub returns-in-Some-clause-some : goal.returns-in-Some-clause-some
returns-in-Some-clause-some c = found_at c.args.number c.in-Some.i c.args.segments.now c.index-segments-i.result c.in-Some.ensures.some.0 c.in-Some.ensures.some.1 c.index-segments-i.is
