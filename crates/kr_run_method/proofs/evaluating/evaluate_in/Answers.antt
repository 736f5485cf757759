use Rattle.std.proofs.Common.{false}
use Rattle.kr_run_state.specs.Worlds.{state_at}
use Rattle.kr_run_method.proofs.Runs.{leaves}
use Rattle.kr_run_method.proofs.evaluating.evaluate_in.Goals as goal

pub returns : goal.returns
returns c = λ d m.
    let code = c.args.code.now in
    let before = c.args.world in
    leaves code false c.value_of-said.result c.in_ok-end.end c.given.result c.value_of-said.new.world before (λ e x. e.value c.args.node (state_at before x)) c.requires c.in_ok-end.ensures c.given.ensures c.value_of-said.ensures d m
