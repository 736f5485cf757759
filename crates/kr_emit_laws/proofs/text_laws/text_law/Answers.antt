use Rattle.kr_emit_laws.proofs.Texts.{text_is}
use Rattle.kr_emit_laws.proofs.text_laws.text_law.Goals as goal

pub returns : goal.returns
returns c = text_is
