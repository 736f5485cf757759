use Rattle.kr_mean.specs.Steps.{collect}
use Rattle.kr_code.specs.Collections.{name_of}
use Rattle.kr_run_state.specs.Worlds.{state_at}
use Rattle.kr_run_frames.proofs.Outcomes.{gave_value, value_halts}
use Rattle.kr_run.proofs.calls.collect_on.Goals as goal

pub returns-in-Ok : goal.returns-in-Ok
returns-in-Ok c = λ x a.
    let r = c.in-Ok.ensures x a in
    (r.0, λ d m. gave_value c.args.code.now d c.args.stack.now c.args.world.now.reads c.collect.new.world.reads (collect (name_of c.args.call) c.args.object c.args.arguments.now (state_at c.args.world.now x)) c.in-Ok.given (state_at c.collect.new.world x) r.1)

pub returns-in-Err : goal.returns-in-Err
returns-in-Err c = value_halts c.args.code.now c.in-Err.halt c.args.stack.now c.collect.new.world c.args.world.now (λ x. collect (name_of c.args.call) c.args.object c.args.arguments.now (state_at c.args.world.now x)) c.in-Err.ensures
