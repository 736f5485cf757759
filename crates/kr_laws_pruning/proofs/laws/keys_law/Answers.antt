use Rattle.kr_laws_pruning.proofs.Keys.{keys_tell}
use Rattle.kr_laws_pruning.proofs.laws.keys_law.Goals as goal

pub returns : goal.returns
returns c = keys_tell
