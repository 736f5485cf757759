use Rattle.kr_laws_pruning.proofs.OneRenamed.{one_renamed}
use Rattle.kr_laws_pruning.proofs.laws.renamed_law.Goals as goal

pub returns : goal.returns
returns c = one_renamed
