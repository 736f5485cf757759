use Rattle.kr_laws_pruning.proofs.AllEntries.{plain}
use Rattle.kr_laws_pruning.proofs.laws.plain_law.Goals as goal

pub returns : goal.returns
returns c = plain
