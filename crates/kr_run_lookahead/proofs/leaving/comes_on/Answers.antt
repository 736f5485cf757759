use Rattle.kr_run_frames.specs.declared.frame.Waiting.TheVariants as kept
use Rattle.kr_run_lookahead.specs.declared.leaving.Point.TheVariants as points
use Rattle.kr_run_lookahead.proofs.Lefts.{passes_as, test_on}
use Rattle.kr_run_lookahead.proofs.leaving.comes_on.Goals as goal

pub returns-in-Some-test_left : goal.returns-in-Some-test_left
returns-in-Some-test_left c = passes_as c.args.code.now c.args.waiting.now (kept.Test c.in-Test.frame) (record { point = points.Comes c.args.given; fuel = c.args.fuel }) (record { point = points.Gives c.in-Some-test_left.known.value; fuel = c.in-Some-test_left.known.fuel }) c.in-Test.is (test_on c.args.code.now c.in-Test.frame c.args.fuel c.args.given c.in-Some-test_left.known c.in-Some-test_left.ensures)
