use Rattle.kr_emit_laws.proofs.Written.{writable}
use Rattle.kr_emit_laws.proofs.text_laws.writable_law.Goals as goal

pub returns : goal.returns
returns c = writable
