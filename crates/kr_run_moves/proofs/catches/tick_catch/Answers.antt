use Rattle.kr_mean.specs.Steps.{bind, declare}
use Rattle.kr_code.specs.Doing.{Doing}
use Rattle.kr_code.specs.Steps.{taken}
use Rattle.kr_run_state.specs.Worlds.{state_at}
use Rattle.kr_run_frames.specs.Frames.{out_flow}
use Rattle.kr_run_frames.specs.Leads.{next_task}
use Rattle.kr_run_frames.proofs.Outcomes.{leads_same, flow_reads}
use Rattle.kr_run_moves.proofs.Going.{ticked, no_flow_tick}
use Rattle.kr_run_moves.proofs.catches.tick_catch.Goals as goal

pub returns-in-Err : goal.returns-in-Err
returns-in-Err c = no_flow_tick c.args.code.now c.in-Err.halt c.args.stack.now c.tick.new.world c.args.world.now (λ (d : Doing). bind (taken c.args.code.now c.args.kind) (λ o. bind (declare o) (λ u. d.exec c.args.body))) c.in-Err.ensures

pub returns-in-Ok : goal.returns-in-Ok
returns-in-Ok c =
    let code = c.args.code.now in
    let w = c.args.world.now in
    let then = c.tick.new.world in
    leads_same code (next_task c.take_object.result c.take_object.new.task) c.args.stack.now c.take_object.new.world then w _ (λ d x. out_flow code d c.args.stack.now (bind (taken code c.args.kind) (λ o. bind (declare o) (λ u. d.exec c.args.body)) (state_at then x)))
    (λ x a. let r = c.in-Ok.ensures x a in (r.0, λ d m. ticked (out_flow code d c.args.stack.now) (flow_reads code d c.args.stack.now) w.reads then.reads (bind (taken code c.args.kind) (λ o. bind (declare o) (λ u. d.exec c.args.body))) (state_at w x) (state_at then x) _ r.1))
    c.take_object.ensures
