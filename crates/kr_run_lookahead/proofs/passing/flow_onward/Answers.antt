use Rattle.kr_code.specs.Doing.{Doing}
use Rattle.kr_run_frames.specs.declared.frame.FlowFrame.{FlowFrame}
use Rattle.kr_run_frames.specs.Frames.{led}
use Rattle.kr_run_lookahead.proofs.Alike.{flow_as}
use Rattle.kr_run_lookahead.proofs.passing.flow_onward.Goals as goal

pub returns-in-Rest : goal.returns-in-Rest
returns-in-Rest c = flow_as c.args.code.now c.args.world.now c.args.fuel c.rest.result (λ (f : FlowFrame) (d : Doing). led c.args.code.now d f c.args.flow) _ _ c.in-Rest.is c.rest.ensures

pub returns-in-Again : goal.returns-in-Again
returns-in-Again c = flow_as c.args.code.now c.args.world.now c.args.fuel c.again.result (λ (f : FlowFrame) (d : Doing). led c.args.code.now d f c.args.flow) _ _ c.in-Again.is c.again.ensures
