use Rattle.std.proofs.Common.{Some, ap}
use Rattle.kr_mean.specs.Steps.{bind}
use Rattle.kr_run_state.specs.Worlds.{state_at}
use Rattle.kr_run_frames.specs.declared.frame.TestFrame.TheVariants as tests
use Rattle.kr_run_frames.specs.Frames.{out_flow, tested}
use Rattle.kr_run_frames.specs.Leads.{next_task}
use Rattle.kr_run_frames.proofs.Outcomes.{leads_alike}
use Rattle.kr_run_moves.proofs.Moves.{begins}
use Rattle.kr_run_moves.proofs.lists.begin_local.Goals as goal

pub returns-in-None : goal.returns-in-None
returns-in-None c = rw c.in-None.is c.next_declared.ensures

pub returns-in-Some : goal.returns-in-Some
returns-in-Some c =
    let code = c.args.code.now in
    let w = c.args.world.now in
    let fs = c.args.stack.now in
    rw c.in-Some.is (leads_alike code (next_task c.initial_next.result c.initial_next.new.task) c.initial_next.new.stack c.initial_next.new.world w (λ d x. out_flow code d fs (tested code d (tests.Declared c.args.local (Some c.in-Some.node) c.args.others) c.args.given (state_at w x))) (λ d x. out_flow code d fs (bind (d.value c.in-Some.node) (tested code d (tests.Initial c.args.local c.args.others)) (state_at w x)))
    (λ x d m. ap (out_flow code d fs) (begins code d c.args.local c.in-Some.node c.args.others c.args.given (state_at w x)))
    c.initial_next.ensures)
