use Rattle.kr_emit_laws.proofs.TypingBeside.{beside}
use Rattle.kr_emit_laws.proofs.typing_laws.beside_law.Goals as goal

pub returns : goal.returns
returns c = beside
