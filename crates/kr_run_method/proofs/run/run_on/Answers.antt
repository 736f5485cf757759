use Rattle.std.proofs.Common.{◌∙◌, Bool, ap}
use Rattle.kr_mean.specs.Steps.{State}
use Rattle.kr_code.specs.Doing.{run_method}
use Rattle.kr_code.specs.Tables.{method_at}
use Rattle.kr_run_state.specs.Worlds.{state_at, state_of}
use Rattle.kr_run_method.specs.Executed.{gives_nothing, left_by}
use Rattle.kr_run_method.proofs.Runs.{leaves}
use Rattle.kr_run_method.proofs.run.run_on.Goals as goal

pub returns : goal.returns
returns c = λ d m.
    let code = c.args.code.now in
    let before = c.world_of-world.result in
    let found = method_at code c.args.method in
    let given = c.args.arguments.now in
    leaves code c.is_void.result c.call-said.result c.in_ok-end.end c.given.result c.call-said.new.world before (λ e x. run_method code e c.args.receiver given found (state_at before x)) c.world_of-world.ensures.candidates c.in_ok-end.ensures c.given.ensures c.call-said.ensures d m
    ∙ ap (λ (void : Bool). left_by void (run_method code d c.args.receiver given found (state_of before))) c.is_void.ensures
    ∙ ap (λ (s : State). left_by (gives_nothing found) (run_method code d c.args.receiver given found s)) c.world_of-world.ensures.state
