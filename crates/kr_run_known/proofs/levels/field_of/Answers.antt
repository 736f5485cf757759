use Rattle.kr_value.specs.declared.value.Value.{Value}
use Rattle.kr_code.specs.Doing.{Doing}
use Rattle.kr_code.specs.Steps.{load_named}
use Rattle.kr_run_known.proofs.Going.{knows_then}
use Rattle.kr_run_known.proofs.levels.field_of.Goals as goal

pub returns-in-Some : goal.returns-in-Some
returns-in-Some g c =
    let code = c.args.code.now in
    let w = c.args.world.now in
    let found = c.in-Some.found in
    knows_then code w c.args.fuel found c.known_with.result (λ (d : Doing). d.value c.args.object) (λ (d : Doing) (v : Value). load_named code c.args.name v) c.in-Some.ensures
    (c.known_with.ensures code w (load_named code c.args.name found.value) c.field.ensures)
