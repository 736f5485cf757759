use Rattle.kr_code.specs.Doing.{Doing, flow_of}
use Rattle.kr_run_state.specs.Worlds.{state_at}
use Rattle.kr_run_frames.specs.Frames.{out_flow}
use Rattle.kr_run_frames.proofs.Outcomes.{leads_same, flow_reads}
use Rattle.kr_run_moves.proofs.Going.{ticked, no_flow_tick}
use Rattle.kr_run_frames.specs.Leads.{next_task}
use Rattle.kr_run.proofs.run.tick_statement.Goals as goal

pub returns-in-Err : goal.returns-in-Err
returns-in-Err c = no_flow_tick c.args.code.now c.in-Err.halt c.args.stack.now c.tick.new.world c.args.world.now (λ (d : Doing). flow_of c.args.code.now d c.args.statement.now) c.in-Err.ensures

pub returns-in-Ok : goal.returns-in-Ok
returns-in-Ok c =
    let code = c.args.code.now in
    let w = c.args.world.now in
    let then = c.tick.new.world in
    leads_same code (next_task c.enter_statement.result c.enter_statement.new.task) c.enter_statement.new.stack c.enter_statement.new.world then w _ (λ d x. out_flow code d c.args.stack.now (flow_of code d c.args.statement.now (state_at then x)))
    (λ x a. let r = c.in-Ok.ensures x a in (r.0, λ d m. ticked (out_flow code d c.args.stack.now) (flow_reads code d c.args.stack.now) w.reads then.reads (flow_of code d c.args.statement.now) (state_at w x) (state_at then x) _ r.1))
    c.enter_statement.ensures
