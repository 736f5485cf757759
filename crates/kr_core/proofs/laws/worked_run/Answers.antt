use Rattle.kr_core.proofs.Example.{worked}
use Rattle.kr_core.proofs.laws.worked_run.Goals as goal

pub returns : goal.returns
returns c = worked
