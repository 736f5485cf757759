use Rattle.kr_emit_laws.proofs.Listings.{emitted_is}
use Rattle.kr_emit_laws.proofs.text_laws.emitted_law.Goals as goal

pub returns : goal.returns
returns c = emitted_is
