use Rattle.kr_mean.specs.declared.flow.Flow.{Flow}
use Rattle.kr_mean.specs.Meaning.{then_on}
use Rattle.kr_code.specs.Doing.{Doing, all_at}
use Rattle.kr_code.specs.Tables.{listed}
use Rattle.kr_run_lookahead.proofs.Alike.{flow_as}
use Rattle.kr_run_lookahead.proofs.passing.rest.Goals as goal

pub returns-in-Next : goal.returns-in-Next
returns-in-Next c = flow_as c.args.code.now c.args.world.now c.args.fuel c.known_flow_of.result (λ (f : Flow) (d : Doing). then_on f (all_at d (listed c.args.code.now c.args.others))) _ _ c.in-Next.is c.known_flow_of.ensures
