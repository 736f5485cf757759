use Rattle.kr_mean.specs.Steps.{assign, bind, give}
use Rattle.kr_run_state.specs.Worlds.{state_at}
use Rattle.kr_run_frames.specs.Frames.{out_value}
use Rattle.kr_run_frames.specs.Leads.{next_task}
use Rattle.kr_run_frames.proofs.Outcomes.{gave_value, leads_same, value_halts}
use Rattle.kr_run_moves.proofs.variables.store_local.Goals as goal

pub returns-in-Ok : goal.returns-in-Ok
returns-in-Ok c =
    let code = c.args.code.now in
    let w = c.args.world.now in
    let then = c.assign.new.world in
    let fs = c.args.stack.now in
    let m = bind (assign c.args.local c.args.value) (λ u. give c.args.given) in
    leads_same code (next_task c.feed_test.result c.feed_test.new.task) c.feed_test.new.stack then then w (λ d x. out_value code d fs (m (state_at w x))) (λ d x. out_value code d fs (give c.in-Ok.value (state_at then x)))
    (λ x a. let r = c.in-Ok.ensures x a in (r.0, λ d i. gave_value code d fs w.reads then.reads (m (state_at w x)) c.in-Ok.value (state_at then x) r.1))
    c.feed_test.ensures

pub returns-in-Err : goal.returns-in-Err
returns-in-Err c = value_halts c.args.code.now c.in-Err.halt c.args.stack.now c.assign.new.world c.args.world.now (λ x. bind (assign c.args.local c.args.value) (λ u. give c.args.given) (state_at c.args.world.now x)) c.in-Err.ensures
