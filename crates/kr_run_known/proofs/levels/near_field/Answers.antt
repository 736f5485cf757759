use Rattle.kr_value.specs.declared.value.Value.{Value}
use Rattle.kr_mean.specs.Steps.{bind}
use Rattle.kr_code.specs.Doing.{Doing}
use Rattle.kr_code.specs.Steps.{load_named}
use Rattle.kr_run_known.proofs.Going.{knows_then, same_known}
use Rattle.kr_run_known.proofs.levels.near_field.Goals as goal

pub returns-in-Some : goal.returns-in-Some
returns-in-Some g c =
    let code = c.args.code.now in
    let w = c.args.world.now in
    let found = c.in-Some.found in
    knows_then code w c.args.fuel found c.known_with.result (λ (d : Doing). d.value c.args.object) (λ (d : Doing) (v : Value). load_named code c.args.name v) c.in-Some.ensures
    (c.known_with.ensures code w (load_named code c.args.name found.value) c.field.ensures)

pub returns-in-None : goal.returns-in-None
returns-in-None g c = same_known c.args.code.now c.args.world.now c.args.fuel c.far_field.result c.again.result (λ (d : Doing). bind (d.value c.args.object) (load_named c.args.code.now c.args.name)) c.again.ensures c.far_field.ensures
