use Rattle.kr_pure.proofs.Nodes.{super_call}
use Rattle.kr_pure.proofs.laws.super_law.Goals as goal

pub returns : goal.returns
returns c = super_call
