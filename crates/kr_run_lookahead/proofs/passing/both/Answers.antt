use Rattle.std.proofs.Common.{true, false, rules}
use Rattle.kr_value.specs.declared.value.Value.{Value}
use Rattle.kr_value.specs.declared.value.Value.TheVariants.{Bool as Truth}
use Rattle.kr_mean.specs.Steps.{give}
use Rattle.kr_mean.specs.Meaning.{choose}
use Rattle.kr_code.specs.Doing.{Doing}
use Rattle.kr_run_lookahead.proofs.Alike.{value_as}
use Rattle.kr_run_lookahead.proofs.passing.both.Goals as goal

pub returns-in-Bool-true : goal.returns-in-Bool-true
returns-in-Bool-true c = value_as c.args.code.now c.args.world.now c.args.fuel c.look_at.result (λ (v : Value) (d : Doing). choose v (d.value c.args.right) (give (Truth false))) c.args.given (Truth true) (search rules) c.look_at.ensures
