use Rattle.std.proofs.Common.{true, false, rules}
use Rattle.kr_value.specs.declared.value.Value.{Value}
use Rattle.kr_value.specs.declared.value.Value.TheVariants.{Bool as Truth}
use Rattle.kr_mean.specs.Steps.{give}
use Rattle.kr_mean.specs.Meaning.{choose}
use Rattle.kr_code.specs.Doing.{Doing}
use Rattle.kr_run_lookahead.proofs.Alike.{value_as}
use Rattle.kr_run_lookahead.proofs.passing.either.Goals as goal

pub returns-in-Bool-false : goal.returns-in-Bool-false
returns-in-Bool-false c = value_as c.args.code.now c.args.world.now c.args.fuel c.look_at.result (λ (v : Value) (d : Doing). choose v (give (Truth true)) (d.value c.args.right)) c.args.given (Truth false) (search rules) c.look_at.ensures
