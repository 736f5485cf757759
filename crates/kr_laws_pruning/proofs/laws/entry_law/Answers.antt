use Rattle.kr_laws_pruning.proofs.Keys.{has_entry}
use Rattle.kr_laws_pruning.proofs.laws.entry_law.Goals as goal

pub returns : goal.returns
returns c = has_entry
