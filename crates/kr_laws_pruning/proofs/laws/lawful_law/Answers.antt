use Rattle.kr_laws_pruning.proofs.Lawful.{is_lawful}
use Rattle.kr_laws_pruning.proofs.laws.lawful_law.Goals as goal

pub returns : goal.returns
returns c = is_lawful
