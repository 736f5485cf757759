use Rattle.kr_mean.specs.declared.flow.Flow.{Flow}
use Rattle.kr_mean.specs.Meaning.{then_round}
use Rattle.kr_code.specs.Doing.{Doing}
use Rattle.kr_run_frames.specs.Frames.{repeated}
use Rattle.kr_run_lookahead.proofs.Alike.{flow_as}
use Rattle.kr_run_lookahead.proofs.passing.again.Goals as goal

pub returns-in-Next : goal.returns-in-Next
returns-in-Next c = flow_as c.args.code.now c.args.world.now c.args.fuel c.ended.result (λ (f : Flow) (d : Doing). then_round f (repeated c.args.code.now d c.args.turn)) _ _ c.in-Next.is c.ended.ensures

pub returns-in-Continued : goal.returns-in-Continued
returns-in-Continued c = flow_as c.args.code.now c.args.world.now c.args.fuel c.ended-in-Continued.result (λ (f : Flow) (d : Doing). then_round f (repeated c.args.code.now d c.args.turn)) _ _ c.in-Continued.is c.ended-in-Continued.ensures
