use Rattle.kr_core.proofs.Fronts.{rows_all}
use Rattle.kr_core.proofs.fits.front_rows.Goals as goal

pub returns : goal.returns
returns c = rows_all c.loop-segment.segment-index c.loop-segment.rows c.args.segments.now c.loop-segment-test.false c.loop-segment.invariant.left c.loop-segment.invariant.fits
