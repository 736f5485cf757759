use Rattle.kr_emit_laws.proofs.TextAccepted.{read_back}
use Rattle.kr_emit_laws.proofs.text_laws.read_law.Goals as goal

pub returns : goal.returns
returns c = read_back
