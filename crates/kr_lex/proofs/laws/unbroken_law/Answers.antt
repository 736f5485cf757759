use Rattle.kr_lex.proofs.First.{unbroken}
use Rattle.kr_lex.proofs.laws.unbroken_law.Goals as goal

pub returns : goal.returns
returns c = unbroken
