use Rattle.kr_base.proofs.Spans.{resumption}
use Rattle.kr_base.proofs.laws.resumption_law.Goals as goal

pub returns : goal.returns
returns g c = resumption
