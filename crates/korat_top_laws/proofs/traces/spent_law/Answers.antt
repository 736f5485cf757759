use Rattle.korat_top_laws.proofs.Spent.{spent}
use Rattle.korat_top_laws.proofs.traces.spent_law.Goals as goal

pub returns : goal.returns
returns g c = spent
