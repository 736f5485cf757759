use Rattle.kr_emit_laws.proofs.Whole.{builders}
use Rattle.kr_emit_laws.proofs.laws.builders_law.Goals as goal

pub returns : goal.returns
returns c = builders
