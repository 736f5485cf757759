use Rattle.korat_top_laws.proofs.Ends.{ends}
use Rattle.korat_top_laws.proofs.traces.ends_law.Goals as goal

pub returns : goal.returns
returns g c = ends
