use Rattle.kr_pure.proofs.Walk.{walked}
use Rattle.kr_pure.proofs.laws.walk_law.Goals as goal

pub returns : goal.returns
returns c = walked
