use Rattle.kr_core.proofs.Holding.{exclusive_law}
use Rattle.kr_core.proofs.laws.exclusive_law.Goals as goal

pub returns : goal.returns
returns c = exclusive_law
