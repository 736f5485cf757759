use Rattle.kr_code.specs.Steps.{store_initial}
use Rattle.kr_run_state.specs.Worlds.{state_at}
use Rattle.kr_run_frames.proofs.Outcomes.{unit_halts}
use Rattle.kr_run.proofs.run.store.Goals as goal

pub returns-in-Err : goal.returns-in-Err
returns-in-Err c = unit_halts c.args.code.now c.in-Err.halt c.args.stack.now c.store_initial.new.world c.args.world.now (λ x. store_initial c.args.code.now c.args.field c.args.object c.args.given (state_at c.args.world.now x)) c.in-Err.ensures
