use Rattle.kr_parse_laws.proofs.Complete.{one_tree}
use Rattle.kr_parse_laws.proofs.laws.one_tree.Goals as goal

pub returns : goal.returns
returns c = one_tree
