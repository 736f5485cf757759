use Rattle.kr_laws_safety.proofs.KeepTypes.{keep_types}
use Rattle.kr_laws_safety.proofs.heap_laws.steps_law.Goals as goal

pub returns : goal.returns
returns c = keep_types
