use Rattle.kr_run_lookahead.proofs.Goes.{flow_passes}
use Rattle.kr_run_lookahead.proofs.lookahead.pass_flow.Goals as goal

pub returns-in-Some-clause-passes : goal.returns-in-Some-clause-passes
returns-in-Some-clause-passes c = λ d fs i. flow_passes c.args.code.now d c.args.world.now c.args.frame.now fs c.args.flow c.in-Some.led c.in-Some.ensures i
