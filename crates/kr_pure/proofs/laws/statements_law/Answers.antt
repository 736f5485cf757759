use Rattle.kr_pure.proofs.Nodes.{statements}
use Rattle.kr_pure.proofs.laws.statements_law.Goals as goal

pub returns : goal.returns
returns c = statements
