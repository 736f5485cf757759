use Rattle.kr_core.proofs.Ends.{kept_law}
use Rattle.kr_core.proofs.laws.kept_law.Goals as goal

pub returns : goal.returns
returns c = kept_law
