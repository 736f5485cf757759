use Rattle.kr_run_state.specs.Worlds.{state_at}
use Rattle.kr_run_frames.proofs.Outcomes.{gave_value}
use Rattle.kr_run.proofs.run.evaluate_node.Goals as goal

pub returns-in-Some : goal.returns-in-Some
returns-in-Some c = λ x a.
    let w = c.args.world.now in
    let then = c.at_once.new.world in
    let r = c.in-Some.ensures x a in
    (r.0, λ d m. gave_value c.args.code.now d c.args.stack.now w.reads then.reads (d.value c.args.node (state_at w x)) c.in-Some.given (state_at then x) (r.1 d m))
