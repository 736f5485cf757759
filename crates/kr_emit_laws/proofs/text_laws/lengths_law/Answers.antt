use Rattle.kr_emit_laws.proofs.Sized.{lengths}
use Rattle.kr_emit_laws.proofs.text_laws.lengths_law.Goals as goal

pub returns : goal.returns
returns c = λ problem vector w is. lengths problem w vector is
