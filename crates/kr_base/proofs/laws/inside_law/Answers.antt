use Rattle.kr_base.proofs.Insides.{inside}
use Rattle.kr_base.proofs.laws.inside_law.Goals as goal

pub returns : goal.returns
returns c = inside
