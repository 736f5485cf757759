use Rattle.kr_run_lookahead.proofs.Goes.{test_passes}
use Rattle.kr_run_lookahead.proofs.lookahead.pass_test.Goals as goal

pub returns-in-Some-clause-passes : goal.returns-in-Some-clause-passes
returns-in-Some-clause-passes c = λ d fs i. test_passes c.args.code.now d c.args.world.now c.args.frame.now fs c.args.given c.in-Some.led c.in-Some.ensures i
