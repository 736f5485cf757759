use Rattle.kr_laws_safety.proofs.Vectors.{is_typed}
use Rattle.kr_laws_safety.proofs.heap_laws.vectors_law.Goals as goal

pub returns : goal.returns
returns c = is_typed
