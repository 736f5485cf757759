use Rattle.kr_run_state.specs.Worlds.{state_of}
use Rattle.kr_contract.proofs.Decided.{olds_next, olds_stop}
use Rattle.kr_contract.proofs.parts.value_olds.Goals as goal

pub returns-in-Err : goal.returns-in-Err
returns-in-Err c =
    olds_stop c.args.code.now c.args.olds.now (state_of c.args.world.now) c.olds.old-index _ c.olds.values.items (state_of c.olds.world) c.in-Err.verdict c.in_ok-verdict.field-0 c.evaluate_naming.new.world c.olds-test.true c.in-Err.is c.olds.invariant.1 c.in_ok-verdict.ensures

pub olds-preserved : goal.olds-preserved
olds-preserved c =
    olds_next c.args.code.now c.args.olds.now (state_of c.args.world.now) c.olds.old-index _ c.olds.values.items c.push.new.self.items (state_of c.olds.world) c.in-Ok.value c.in_ok-verdict.field-0 c.evaluate_naming.new.world c.olds-test.true c.in-Ok.is c.in_ok-push-in-Ok.ensures.items c.olds.invariant.1 c.in_ok-verdict.ensures
