use Rattle.kr_core.proofs.Logs.{replay_law}
use Rattle.kr_core.proofs.laws.replay_law.Goals as goal

pub returns : goal.returns
returns c = replay_law
