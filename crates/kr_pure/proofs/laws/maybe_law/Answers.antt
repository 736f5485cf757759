use Rattle.kr_pure.proofs.Nodes.{maybe}
use Rattle.kr_pure.proofs.laws.maybe_law.Goals as goal

pub returns : goal.returns
returns c = maybe
