use Rattle.kr_iso.proofs.Least.{choice}
use Rattle.kr_iso.proofs.laws.choice_law.Goals as goal

pub returns : goal.returns
returns g c = choice
