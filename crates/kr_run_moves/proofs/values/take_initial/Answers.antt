use Rattle.std.proofs.Common.{Err, ap}
use Rattle.kr_value.specs.declared.value.Value.{Value}
use Rattle.kr_mean.specs.Steps.{assign, bind, give}
use Rattle.kr_code.specs.Doing.{Doing, all_declared}
use Rattle.kr_code.specs.Tables.{listed}
use Rattle.kr_run_state.specs.Worlds.{state_at}
use Rattle.kr_run_frames.specs.declared.frame.TestFrame.TheVariants as tests
use Rattle.kr_run_frames.specs.Frames.{out_flow, tested}
use Rattle.kr_run_frames.specs.Leads.{next_task}
use Rattle.kr_run_frames.proofs.Outcomes.{leads_alike}
use Rattle.kr_run_moves.proofs.Going.{flow_then, no_flow}
use Rattle.kr_run_moves.proofs.Moves.{initial_then}
use Rattle.kr_run_moves.proofs.values.take_initial.Goals as goal

pub returns-in-Ok : goal.returns-in-Ok
returns-in-Ok c =
    let code = c.args.code.now in
    let w = c.args.world.now in
    let fs = c.args.stack.now in
    let then = c.assign.new.world in
    let k = c.args.local in
    let v = c.args.given in
    leads_alike code (next_task c.declare_rest.result c.declare_rest.new.task) fs then w (λ d x. out_flow code d fs (tested code d (tests.Initial k c.args.others) v (state_at w x))) (λ d x. out_flow code d fs (bind (bind (assign k v) (λ u. give v)) (λ u. all_declared code d (listed code c.args.others)) (state_at w x)))
    (λ x d m. ap (out_flow code d fs) (initial_then code d k v c.args.others (state_at w x)))
    (flow_then code (next_task c.declare_rest.result c.declare_rest.new.task) fs fs then then w (λ (d : Doing). bind (assign k v) (λ u. give v)) (λ (d : Doing) (u : Value). all_declared code d (listed code c.args.others)) _ (λ x a. let y = c.in-Ok.ensures x a in (y.0, λ d i. y.1)) c.declare_rest.ensures)

pub returns-in-Err : goal.returns-in-Err
returns-in-Err c =
    let code = c.args.code.now in
    let w = c.args.world.now in
    let fs = c.args.stack.now in
    let then = c.assign.new.world in
    let k = c.args.local in
    let v = c.args.given in
    leads_alike code (Err c.in-Err.halt) fs then w (λ d x. out_flow code d fs (tested code d (tests.Initial k c.args.others) v (state_at w x))) (λ d x. out_flow code d fs (bind (bind (assign k v) (λ u. give v)) (λ u. all_declared code d (listed code c.args.others)) (state_at w x)))
    (λ x d m. ap (out_flow code d fs) (initial_then code d k v c.args.others (state_at w x)))
    (no_flow code c.in-Err.halt fs then w (bind (assign k v) (λ u. give v)) (λ (d : Doing) (u : Value). all_declared code d (listed code c.args.others)) c.in-Err.ensures)
