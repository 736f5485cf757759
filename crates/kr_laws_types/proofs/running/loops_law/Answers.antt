use Rattle.kr_laws_types.proofs.Loops.{are_same}
use Rattle.kr_laws_types.proofs.running.loops_law.Goals as goal

pub returns : goal.returns
returns c = are_same
