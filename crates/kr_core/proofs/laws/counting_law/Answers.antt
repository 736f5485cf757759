use Rattle.kr_core.proofs.Ends.{counting_law}
use Rattle.kr_core.proofs.laws.counting_law.Goals as goal

pub returns : goal.returns
returns g c = counting_law
