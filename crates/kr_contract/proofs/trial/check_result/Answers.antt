use Rattle.std.specs.Prelude.{map}
use Rattle.kr_run_state.specs.Shown.{old_of}
use Rattle.kr_run_state.specs.Worlds.{state_of}
use Rattle.kr_contract.proofs.Decided.{rep_ok_fails, rep_ok_holds}
use Rattle.kr_contract.proofs.trial.check_result.Goals as goal

pub returns-in-Some : goal.returns-in-Some
returns-in-Some c =
    rep_ok_fails c.args.code.now c.args.rep_ok c.args.contract.now.postconditions.items (map old_of c.args.olds.now) c.args.given (state_of c.args.world.now) c.in-Some.verdict c.in_ok-verdict.field-0 c.check_rep_ok.new.world c.in-Some.is c.in_ok-verdict.ensures

pub returns-in_ok-show-in-None : goal.returns-in_ok-show-in-None
returns-in_ok-show-in-None c =
    rep_ok_holds c.args.code.now c.args.rep_ok c.as_slice-nodes.result.now c.args.contract.now.postconditions.items (map old_of c.args.olds.now) c.args.given (state_of c.args.world.now) c.in_ok-verdict.field-0 c.check_rep_ok.new.world c.show.new.world c.check_all.result c.in-None.is c.in_ok-verdict.ensures
    c.in_ok-show-in-None.ensures.state c.as_slice-nodes.ensures.value c.check_all.ensures
