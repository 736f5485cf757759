use Rattle.kr_code.specs.Steps.{throw_object}
use Rattle.kr_run_state.specs.Worlds.{state_at}
use Rattle.kr_run_frames.proofs.Outcomes.{flow_halts}
use Rattle.kr_run_moves.proofs.catches.throw_from.Goals as goal

pub returns : goal.returns
returns c = flow_halts c.args.code.now c.throw.result c.args.stack.now c.throw.new.world c.args.world.now (λ x. throw_object c.args.code.now c.args.object (state_at c.args.world.now x)) c.throw.ensures
