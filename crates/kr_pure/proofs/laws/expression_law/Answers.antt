use Rattle.kr_pure.proofs.Nodes.{expression}
use Rattle.kr_pure.proofs.laws.expression_law.Goals as goal

pub returns : goal.returns
returns c = expression
