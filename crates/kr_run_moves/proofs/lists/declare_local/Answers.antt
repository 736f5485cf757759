use Rattle.std.proofs.Common.{Err, Some, ap}
use Rattle.kr_value.specs.declared.value.Value.{Value}
use Rattle.kr_mean.specs.Steps.{bind}
use Rattle.kr_code.specs.Doing.{Doing, all_declared, declared}
use Rattle.kr_code.specs.Tables.{listed}
use Rattle.kr_run_state.specs.declared.action.Action.TheVariants as actions
use Rattle.kr_run_state.specs.Actions.{acted}
use Rattle.kr_run_state.specs.Worlds.{state_at}
use Rattle.kr_run_frames.specs.declared.frame.TestFrame.TheVariants as tests
use Rattle.kr_run_frames.specs.Frames.{out_flow, tested}
use Rattle.kr_run_frames.specs.Leads.{next_task}
use Rattle.kr_run_frames.proofs.Outcomes.{leads_alike}
use Rattle.kr_run_moves.proofs.Going.{flow_then, no_flow}
use Rattle.kr_run_moves.proofs.Moves.{declares}
use Rattle.kr_run_moves.proofs.lists.declare_local.Goals as goal

pub returns-in-Ok : goal.returns-in-Ok
returns-in-Ok c =
    let code = c.args.code.now in
    let w = c.args.world.now in
    let fs = c.args.stack.now in
    let then = c.declare.new.world in
    let y = c.args.declarator in
    let r = next_task c.begin_local.result c.begin_local.new.task in
    leads_alike code r c.begin_local.new.stack c.begin_local.new.world w (λ d x. out_flow code d fs (bind (declared d (Some y)) (λ u. all_declared code d (listed code c.args.others)) (state_at w x))) (λ d x. out_flow code d fs (bind (acted code (actions.Declare y.default)) (tested code d (tests.Declared y.local y.initial c.args.others)) (state_at w x)))
    (λ x d m. ap (out_flow code d fs) (declares code d y c.args.others (state_at w x)))
    (flow_then code r fs c.begin_local.new.stack c.begin_local.new.world then w (λ (d : Doing). acted code (actions.Declare y.default)) (λ (d : Doing) (v : Value). tested code d (tests.Declared y.local y.initial c.args.others) v) c.in-Ok.given (λ x a. let k = c.in-Ok.ensures x a in (k.0, λ d i. k.1)) c.begin_local.ensures)

pub returns-in-Err : goal.returns-in-Err
returns-in-Err c =
    let code = c.args.code.now in
    let w = c.args.world.now in
    let fs = c.args.stack.now in
    let then = c.declare.new.world in
    let y = c.args.declarator in
    leads_alike code (Err c.in-Err.halt) fs then w (λ d x. out_flow code d fs (bind (declared d (Some y)) (λ u. all_declared code d (listed code c.args.others)) (state_at w x))) (λ d x. out_flow code d fs (bind (acted code (actions.Declare y.default)) (tested code d (tests.Declared y.local y.initial c.args.others)) (state_at w x)))
    (λ x d m. ap (out_flow code d fs) (declares code d y c.args.others (state_at w x)))
    (no_flow code c.in-Err.halt fs then w (acted code (actions.Declare y.default)) (λ (d : Doing) (v : Value). tested code d (tests.Declared y.local y.initial c.args.others) v) c.in-Err.ensures)
