use Rattle.kr_emit_laws.proofs.Kept.{fit}
use Rattle.kr_emit_laws.proofs.typing_laws.fit_law.Goals as goal

pub returns : goal.returns
returns c = fit
