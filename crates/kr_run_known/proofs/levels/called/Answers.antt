use Rattle.kr_mean.specs.Steps.{collect}
use Rattle.kr_code.specs.Collections.{name_of}
use Rattle.kr_code.specs.Doing.{Doing}
use Rattle.kr_code.specs.Tables.{listed}
use Rattle.kr_run_known.proofs.Going.{only_value}
use Rattle.kr_run_known.proofs.levels.called.Goals as goal

pub returns-in-Some : goal.returns-in-Some
returns-in-Some g c =
    let code = c.args.code.now in
    let w = c.args.world.now in
    only_value code w c.args.fuel c.call_with.result (λ (d : Doing). d.value c.args.object) (collect (name_of c.args.call)) (listed code c.args.arguments) c.in-Some.argument c.in-Some.ensures c.call_with.ensures
