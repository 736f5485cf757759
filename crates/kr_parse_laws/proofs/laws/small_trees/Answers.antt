use Rattle.kr_parse_laws.proofs.Small.{small_trees}
use Rattle.kr_parse_laws.proofs.laws.small_trees.Goals as goal

pub returns : goal.returns
returns c = small_trees
