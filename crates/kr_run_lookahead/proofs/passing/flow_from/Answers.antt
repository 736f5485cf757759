use Rattle.kr_code.specs.Doing.{Doing}
use Rattle.kr_run_frames.specs.declared.frame.TestFrame.{TestFrame}
use Rattle.kr_run_frames.specs.Frames.{tested}
use Rattle.kr_run_lookahead.proofs.Alike.{flow_as}
use Rattle.kr_run_lookahead.proofs.passing.flow_from.Goals as goal

pub returns-in-Then : goal.returns-in-Then
returns-in-Then c = flow_as c.args.code.now c.args.world.now c.args.fuel c.chosen.result (λ (f : TestFrame) (d : Doing). tested c.args.code.now d f c.args.given) _ _ c.in-Then.is c.chosen.ensures

pub returns-in-Branch : goal.returns-in-Branch
returns-in-Branch c = flow_as c.args.code.now c.args.world.now c.args.fuel c.branched.result (λ (f : TestFrame) (d : Doing). tested c.args.code.now d f c.args.given) _ _ c.in-Branch.is c.branched.ensures

pub returns-in-Test : goal.returns-in-Test
returns-in-Test c = flow_as c.args.code.now c.args.world.now c.args.fuel c.left_loop.result (λ (f : TestFrame) (d : Doing). tested c.args.code.now d f c.args.given) _ _ c.in-Test.is c.left_loop.ensures
