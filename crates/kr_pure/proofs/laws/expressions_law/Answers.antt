use Rattle.kr_pure.proofs.Nodes.{expressions}
use Rattle.kr_pure.proofs.laws.expressions_law.Goals as goal

pub returns : goal.returns
returns c = expressions
