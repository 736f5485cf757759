use Rattle.kr_core.proofs.Logs.{growth_law}
use Rattle.kr_core.proofs.laws.growth_law.Goals as goal

pub returns : goal.returns
returns g c = growth_law
