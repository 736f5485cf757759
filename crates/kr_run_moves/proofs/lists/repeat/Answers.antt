use Rattle.std.proofs.Common.{Err, ap, ◌∙◌}
use Rattle.kr_mean.specs.Steps.{Outcome, bind, tick}
use Rattle.kr_mean.specs.declared.flow.Flow.{Flow}
use Rattle.kr_code.specs.Doing.{Doing}
use Rattle.kr_run_state.specs.Noting.{noting}
use Rattle.kr_run_state.specs.Worlds.{state_at}
use Rattle.kr_run_frames.specs.Frames.{out_flow, repeated, test_of, turned}
use Rattle.kr_run_frames.proofs.Outcomes.{leads_same, leads_alike, flow_reads}
use Rattle.kr_run_moves.proofs.Moves.{rounds}
use Rattle.kr_run_moves.proofs.Going.{ticked, no_flow_tick}
use Rattle.kr_run_frames.specs.Leads.{next_task}
use Rattle.kr_run_moves.proofs.lists.repeat.Goals as goal

pub returns-in-Err : goal.returns-in-Err
returns-in-Err c =
    let code = c.args.code.now in
    let w = c.args.world.now in
    let fs = c.args.stack.now in
    let l = c.args.turn in
    leads_alike code (Err c.in-Err.halt) fs c.tick.new.world w (λ d x. out_flow code d fs (repeated code d l (state_at w x))) (λ d x. out_flow code d fs (bind tick (λ u. bind (test_of d l) (turned code d l)) (state_at w x)))
    (λ x d m. ap (λ (q : Outcome Flow). out_flow code d fs q) (rounds code d l (state_at w x) m))
    (no_flow_tick code c.in-Err.halt fs c.tick.new.world w (λ (d : Doing). bind (test_of d l) (turned code d l)) c.in-Err.ensures)

pub returns-in-Ok : goal.returns-in-Ok
returns-in-Ok c =
    let code = c.args.code.now in
    let w = c.args.world.now in
    let fs = c.args.stack.now in
    let l = c.args.turn in
    let then = c.tick.new.world in
    leads_same code (next_task c.begin_round.result c.begin_round.new.task) c.begin_round.new.stack c.begin_round.new.world then w (λ d x. out_flow code d fs (repeated code d l (state_at w x))) (λ d x. out_flow code d fs (bind (test_of d l) (turned code d l) (state_at then x)))
    (λ x a. let r = c.in-Ok.ensures x a in (
      r.0,
      λ d m. ap (λ (q : Outcome Flow). noting w.reads (out_flow code d fs q)) (rounds code d l (state_at w x) m)
          ∙ ticked (out_flow code d fs) (flow_reads code d fs) w.reads then.reads (bind (test_of d l) (turned code d l)) (state_at w x) (state_at then x) _ r.1,
    ))
    c.begin_round.ensures
