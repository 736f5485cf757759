use Rattle.std.proofs.Common.{Some, true, false, refl, rules}
use Rattle.kr_value.specs.declared.value.Value.{Value}
use Rattle.kr_value.specs.declared.value.Value.TheVariants.{Bool as Truth}
use Rattle.kr_mean.specs.Steps.{give}
use Rattle.kr_mean.specs.Meaning.{choose}
use Rattle.kr_code.specs.Doing.{Doing}
use Rattle.kr_run_known.proofs.Going.{knows_as}
use Rattle.kr_run_known.proofs.levels.and_of.Goals as goal

pub returns-in-Bool-true : goal.returns-in-Bool-true
returns-in-Bool-true g c = knows_as c.args.code.now c.args.world.now c.args.fuel c.in-Some.first (Truth true) c.look-in-Bool-true.result (λ (d : Doing). d.value c.args.left) (λ (d : Doing) (v : Value). choose v (d.value c.args.right) (give (Truth false))) (search rules) c.in-Some.ensures c.look-in-Bool-true.ensures

pub returns-in-Bool-false : goal.returns-in-Bool-false
returns-in-Bool-false g c = knows_as c.args.code.now c.args.world.now c.args.fuel c.in-Some.first (Truth false) (Some (record { value = Truth false; fuel = c.in-Some.first.fuel })) (λ (d : Doing). d.value c.args.left) (λ (d : Doing) (v : Value). choose v (d.value c.args.right) (give (Truth false))) (search rules) c.in-Some.ensures (λ x a d i. refl)
