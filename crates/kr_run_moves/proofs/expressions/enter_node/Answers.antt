use Rattle.std.proofs.Common.{Err, ap, ◌∙◌}
use Rattle.kr_value.specs.declared.value.Value.{Value}
use Rattle.kr_mean.specs.Steps.{Outcome, bind, tick}
use Rattle.kr_code.specs.Doing.{Doing, value_done}
use Rattle.kr_code.specs.Tables.{node_at, expression_of}
use Rattle.kr_run_state.specs.Noting.{noting}
use Rattle.kr_run_state.specs.Worlds.{state_at}
use Rattle.kr_run_frames.specs.Frames.{out_value}
use Rattle.kr_run_frames.proofs.Outcomes.{leads_same, leads_alike, value_reads}
use Rattle.kr_run_moves.proofs.Going.{ticked, no_value_tick}
use Rattle.kr_run_frames.specs.Leads.{next_task}
use Rattle.kr_run_moves.proofs.expressions.enter_node.Goals as goal

pub returns-in-Err : goal.returns-in-Err
returns-in-Err c =
    let code = c.args.code.now in
    let w = c.args.world.now in
    leads_alike code (Err c.in-Err.halt) c.args.stack.now c.tick.new.world w (λ d x. out_value code d c.args.stack.now (d.value c.args.node (state_at w x))) (λ d x. out_value code d c.args.stack.now (bind tick (λ u. value_done code d (expression_of (node_at code c.args.node))) (state_at w x)))
    (λ x d m. ap (λ (q : Outcome Value). out_value code d c.args.stack.now q) (m.value_is c.args.node (state_at w x)))
    (no_value_tick code c.in-Err.halt c.args.stack.now c.tick.new.world w (λ (d : Doing). value_done code d (expression_of (node_at code c.args.node))) c.in-Err.ensures)

pub returns-in-Ok : goal.returns-in-Ok
returns-in-Ok c =
    let code = c.args.code.now in
    let w = c.args.world.now in
    let then = c.tick.new.world in
    let e = expression_of (node_at code c.args.node) in
    leads_same code (next_task c.enter_ticked.result c.enter_ticked.new.task) c.enter_ticked.new.stack c.enter_ticked.new.world then w (λ d x. out_value code d c.args.stack.now (d.value c.args.node (state_at w x))) (λ d x. out_value code d c.args.stack.now (value_done code d e (state_at then x)))
    (λ x a. let r = c.in-Ok.ensures x a in (
      r.0,
      λ d m. ap (λ (q : Outcome Value). noting w.reads (out_value code d c.args.stack.now q)) (m.value_is c.args.node (state_at w x))
          ∙ ticked (out_value code d c.args.stack.now) (value_reads code d c.args.stack.now) w.reads then.reads (value_done code d e) (state_at w x) (state_at then x) _ r.1,
    ))
    c.enter_ticked.ensures
