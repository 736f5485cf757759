use Rattle.std.proofs.Common.{Ok, Err}
use Rattle.kr_mean.specs.declared.kind.Verdict.TheVariants.{CheckTrap}
use Rattle.kr_code.specs.Steps.{taken}
use Rattle.kr_run_state.specs.Worlds.{state_at}
use Rattle.kr_contract.proofs.Decided.{agreed, decided, ended}
use Rattle.kr_contract.proofs.parts.take_object.Goals as goal

pub returns-in-Ok : goal.returns-in-Ok
returns-in-Ok c =
    let code = c.args.code.now in
    let before = c.args.world.now in
    let w = c.take.new.world in
    decided code before w (λ d x. taken code c.args.kind (state_at before x)) (λ x. CheckTrap x) c.requires c.in-Ok.object (agreed code (Ok c.in-Ok.object) w before (λ x. taken code c.args.kind (state_at before x)) c.in-Ok.ensures)

pub returns-in-Err-Ended : goal.returns-in-Err-Ended
returns-in-Err-Ended c =
    let code = c.args.code.now in
    let before = c.args.world.now in
    let w = c.take.new.world in
    ended code before w (λ d x. taken code c.args.kind (state_at before x)) (λ x. CheckTrap x) c.requires c.in-Err-Ended.field-0 c.in-Err-Ended.end c.check_ended.result c.in-Err-Ended.field-0-is c.check_ended.ensures
    (agreed code (Err c.in-Err-Ended.field-0) w before (λ x. taken code c.args.kind (state_at before x)) c.in-Err-Ended.ensures)
