use Rattle.korat_top_laws.proofs.Whole.{whole}
use Rattle.korat_top_laws.proofs.traces.whole_law.Goals as goal

pub returns : goal.returns
returns g c = whole
