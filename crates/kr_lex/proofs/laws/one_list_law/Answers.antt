use Rattle.kr_lex.proofs.Paths.{one_list}
use Rattle.kr_lex.proofs.laws.one_list_law.Goals as goal

pub returns : goal.returns
returns c = one_list
