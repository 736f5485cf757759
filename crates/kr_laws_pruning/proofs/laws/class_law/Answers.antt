use Rattle.kr_laws_pruning.proofs.Isomorphic.{one_class}
use Rattle.kr_laws_pruning.proofs.laws.class_law.Goals as goal

pub returns : goal.returns
returns c = one_class
