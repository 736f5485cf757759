use Rattle.kr_core.proofs.Holding.{owners_law}
use Rattle.kr_core.proofs.laws.owners_law.Goals as goal

pub returns : goal.returns
returns c = owners_law
