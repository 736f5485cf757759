use Rattle.std.proofs.Common.{ap}
use Rattle.kr_mean.specs.Steps.{Outcome, bind, tick}
use Rattle.kr_mean.specs.declared.flow.Flow.{Flow}
use Rattle.kr_code.specs.Doing.{statement_done, flow_of, all_declared}
use Rattle.kr_code.specs.Tables.{listed}
use Rattle.kr_code.specs.declared.statement.Statement.{Statement}
use Rattle.kr_run_state.specs.Worlds.{state_at}
use Rattle.kr_run_frames.specs.Frames.{out_flow}
use Rattle.kr_run_frames.specs.Leads.{next_task}
use Rattle.kr_run_frames.proofs.Outcomes.{leads_alike}
use Rattle.kr_run.proofs.run.execute_statement.Goals as goal

pub returns-in-None : goal.returns-in-None
returns-in-None c =
    let code = c.args.code.now in
    let w = c.args.world.now in
    leads_alike code (next_task c.tick_statement.result c.tick_statement.new.task) c.tick_statement.new.stack c.tick_statement.new.world w (λ d x. out_flow code d c.args.stack.now (statement_done code d c.args.statement.now (state_at w x))) (λ d x. out_flow code d c.args.stack.now (bind tick (λ u. flow_of code d c.args.statement.now) (state_at w x)))
    (λ x d m. ap (λ (q : Outcome Flow). out_flow code d c.args.stack.now q) (c.in-None.ensures code d (state_at w x)))
    c.tick_statement.ensures

pub returns-in-Some : goal.returns-in-Some
returns-in-Some c =
    let code = c.args.code.now in
    let w = c.args.world.now in
    leads_alike code (next_task c.declare.result c.declare.new.task) c.declare.new.stack c.declare.new.world w (λ d x. out_flow code d c.args.stack.now (statement_done code d c.args.statement.now (state_at w x))) (λ d x. out_flow code d c.args.stack.now (all_declared code d (listed code c.in-Some.nodes) (state_at w x)))
    (λ x d m. ap (λ (t : Statement). out_flow code d c.args.stack.now (statement_done code d t (state_at w x))) c.in-Some.ensures)
    c.declare.ensures
