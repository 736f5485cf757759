use Rattle.std.proofs.Common.{true, rules}
use Rattle.kr_value.specs.declared.value.Value.TheVariants.{Bool as Truth}
use Rattle.kr_run_frames.specs.declared.frame.TestFrame.TheVariants as tests
use Rattle.kr_run_lookahead.proofs.Lefts.{holds_as}
use Rattle.kr_run_lookahead.proofs.leaving.test_left.Goals as goal

pub returns-in-Bool-true : goal.returns-in-Bool-true
returns-in-Bool-true c = holds_as c.args.code.now c.args.frame.now (tests.Then c.in-Then.then) c.args.given (Truth true) c.args.fuel c.literal_returned.result c.in-Then.is (search rules) c.literal_returned.ensures
