use Rattle.std.proofs.Common.{ap, sym, ◌∙◌}
use Rattle.kr_mean.specs.Steps.{Outcome}
use Rattle.kr_mean.specs.declared.flow.Flow.{Flow}
use Rattle.kr_code.specs.declared.statement.Statement.{Statement}
use Rattle.kr_code.specs.declared.statement.Statement.TheVariants.{Stuck}
use Rattle.kr_code.specs.Doing.{statement_done}
use Rattle.kr_run_state.specs.Worlds.{state_at}
use Rattle.kr_run_frames.specs.Frames.{out_flow}
use Rattle.kr_run_frames.proofs.Outcomes.{leads_alike}
use Rattle.kr_run_frames.specs.Leads.{next_task}
use Rattle.kr_run.proofs.run.execute_node.Goals as goal

pub returns-in-None : goal.returns-in-None
returns-in-None c =
    let code = c.args.code.now in
    let w = c.args.world.now in
    leads_alike code (next_task c.execute_statement.result c.execute_statement.new.task) c.execute_statement.new.stack c.execute_statement.new.world w (λ d x. out_flow code d c.args.stack.now (d.exec c.args.node (state_at w x))) (λ d x. out_flow code d c.args.stack.now (statement_done code d Stuck (state_at w x)))
    (λ x d m. ap (λ (q : Outcome Flow). out_flow code d c.args.stack.now q) (m.exec_is c.args.node (state_at w x))
    ∙ ap (λ (t : Statement). out_flow code d c.args.stack.now (statement_done code d t (state_at w x))) c.in-None.ensures)
    c.execute_statement.ensures

pub returns-in-Some : goal.returns-in-Some
returns-in-Some c =
    let code = c.args.code.now in
    let w = c.args.world.now in
    leads_alike code (next_task c.execute_statement-in-Some.result c.execute_statement-in-Some.new.task) c.execute_statement-in-Some.new.stack c.execute_statement-in-Some.new.world w (λ d x. out_flow code d c.args.stack.now (d.exec c.args.node (state_at w x))) (λ d x. out_flow code d c.args.stack.now (statement_done code d c.in-Some.statement.now (state_at w x)))
    (λ x d m. ap (λ (q : Outcome Flow). out_flow code d c.args.stack.now q) (m.exec_is c.args.node (state_at w x))
    ∙ ap (λ (t : Statement). out_flow code d c.args.stack.now (statement_done code d t (state_at w x))) (sym c.in-Some.ensures))
    c.execute_statement-in-Some.ensures
