use Rattle.kr_emit_laws.proofs.Writable.{printable}
use Rattle.kr_emit_laws.proofs.text_laws.printable_law.Goals as goal

pub returns : goal.returns
returns c = printable
