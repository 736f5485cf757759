use Rattle.kr_emit_laws.proofs.TypingAdded.{added}
use Rattle.kr_emit_laws.proofs.typing_laws.one_more_law.Goals as goal

pub returns : goal.returns
returns c = added
