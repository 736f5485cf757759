use Rattle.kr_value.specs.declared.value.Value.{Value}
use Rattle.kr_mean.specs.Steps.{bind, declare}
use Rattle.kr_code.specs.Doing.{Doing}
use Rattle.kr_code.specs.Steps.{taken}
use Rattle.kr_run_frames.specs.Leads.{next_task}
use Rattle.kr_run_moves.proofs.Going.{flow_then, no_flow}
use Rattle.kr_run_moves.proofs.catches.take_object.Goals as goal

pub returns-in-Err : goal.returns-in-Err
returns-in-Err c = no_flow c.args.code.now c.in-Err.halt c.args.stack.now c.take.new.world c.args.world.now (taken c.args.code.now c.args.kind) (λ (d : Doing) (o : Value). bind (declare o) (λ u. d.exec c.args.body)) c.in-Err.ensures

pub returns-in-Ok : goal.returns-in-Ok
returns-in-Ok c =
    let code = c.args.code.now in
    flow_then code (next_task c.enter_block.result c.enter_block.new.task) c.args.stack.now c.args.stack.now c.enter_block.new.world c.take.new.world c.args.world.now (λ (d : Doing). taken code c.args.kind) (λ (d : Doing) (o : Value). bind (declare o) (λ u. d.exec c.args.body)) c.in-Ok.object (λ x a. let r = c.in-Ok.ensures x a in (r.0, λ d m. r.1))
    c.enter_block.ensures
