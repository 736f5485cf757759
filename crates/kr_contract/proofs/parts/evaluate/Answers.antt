use Rattle.kr_mean.specs.declared.kind.Verdict.TheVariants.{CheckTrap}
use Rattle.kr_run_state.specs.Worlds.{state_at}
use Rattle.kr_contract.proofs.Decided.{decided, ended}
use Rattle.kr_contract.proofs.parts.evaluate.Goals as goal

pub returns-in-Ok : goal.returns-in-Ok
returns-in-Ok c = decided c.args.code.now c.args.world.now c.value_of.new.world (λ d x. d.value c.args.node (state_at c.args.world.now x)) (λ x. CheckTrap x) c.requires c.in-Ok.value c.in-Ok.ensures

pub returns-in-Err-Ended : goal.returns-in-Err-Ended
returns-in-Err-Ended c = ended c.args.code.now c.args.world.now c.value_of.new.world (λ d x. d.value c.args.node (state_at c.args.world.now x)) (λ x. CheckTrap x) c.requires c.in-Err-Ended.field-0 c.in-Err-Ended.end c.check_ended.result c.in-Err-Ended.field-0-is c.check_ended.ensures c.in-Err-Ended.ensures
