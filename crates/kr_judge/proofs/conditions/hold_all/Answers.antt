use Rattle.kr_run_state.specs.Worlds.{state_of}
use Rattle.kr_judge.proofs.Holding.{means}
use Rattle.kr_judge.proofs.conditions.hold_all.Goals as goal

pub returns : goal.returns
returns c = λ program n is. means c.args.code.now c.hold.result c.hold.new.world c.args.world.now.reads c.args.conditions.now (state_of c.args.world.now) c.hold.ensures program n is
