use Rattle.std.proofs.Common.{true, rules}
use Rattle.kr_value.specs.declared.value.Value.{Value}
use Rattle.kr_value.specs.declared.value.Value.TheVariants.{Bool as Truth}
use Rattle.kr_mean.specs.Steps.{give}
use Rattle.kr_mean.specs.declared.flow.Flow.TheVariants.{Next}
use Rattle.kr_mean.specs.Meaning.{choose}
use Rattle.kr_code.specs.Doing.{Doing}
use Rattle.kr_run_lookahead.proofs.Alike.{flow_as}
use Rattle.kr_run_lookahead.proofs.passing.chosen.Goals as goal

pub returns-in-Bool-true : goal.returns-in-Bool-true
returns-in-Bool-true c = flow_as c.args.code.now c.args.world.now c.args.fuel c.known_flow.result (λ (v : Value) (d : Doing). choose v (d.exec c.args.then) (give Next)) c.args.given (Truth true) (search rules) c.known_flow.ensures
