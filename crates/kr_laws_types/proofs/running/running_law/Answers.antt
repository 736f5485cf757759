use Rattle.kr_laws_types.proofs.Loops.{running_same}
use Rattle.kr_laws_types.proofs.running.running_law.Goals as goal

pub returns : goal.returns
returns c = running_same
