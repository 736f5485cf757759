use Rattle.kr_step.proofs.Firsts.{first}
use Rattle.kr_step.proofs.laws.first_law.Goals as goal

pub returns : goal.returns
returns g c = first
