use Rattle.kr_laws_types.proofs.Expressions.{expressions_law}
use Rattle.kr_laws_types.proofs.which_types.expressions_law.Goals as goal

pub returns : goal.returns
returns c = expressions_law
