use Rattle.kr_emit_laws.proofs.TypingBodies.{methods_law}
use Rattle.kr_emit_laws.proofs.typing_laws.methods_law.Goals as goal

pub returns : goal.returns
returns c = methods_law
