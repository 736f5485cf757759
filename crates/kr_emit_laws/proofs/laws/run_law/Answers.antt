use Rattle.kr_emit_laws.proofs.Whole.{runs}
use Rattle.kr_emit_laws.proofs.laws.run_law.Goals as goal

pub returns : goal.returns
returns c = runs
