use Rattle.kr_emit_laws.proofs.Read.{read}
use Rattle.kr_emit_laws.proofs.text_laws.printed_law.Goals as goal

pub returns : goal.returns
returns c = read
