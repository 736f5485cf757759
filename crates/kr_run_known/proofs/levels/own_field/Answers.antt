use Rattle.kr_code.specs.Steps.{load_named}
use Rattle.kr_run_known.proofs.Going.{this_then}
use Rattle.kr_run_known.proofs.levels.own_field.Goals as goal

pub returns : goal.returns
returns c =
    let code = c.args.code.now in
    let w = c.args.world.now in
    this_then code w c.args.fuel c.known_with.result (load_named code c.args.name) (c.known_with.ensures code w (load_named code c.args.name w.this) c.field.ensures)
