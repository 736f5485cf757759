use Rattle.kr_mean.specs.Steps.{read_local}
use Rattle.kr_run_known.proofs.levels.local_of.Goals as goal

pub returns : goal.returns
returns c = c.known_with.ensures c.args.code.now c.args.world.now (read_local c.args.number) c.local.ensures
