use Rattle.kr_core.proofs.Holding.{leases_law}
use Rattle.kr_core.proofs.laws.leases_law.Goals as goal

pub returns : goal.returns
returns c = leases_law
