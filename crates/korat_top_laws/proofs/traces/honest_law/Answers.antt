use Rattle.korat_top_laws.proofs.Honest.{honest}
use Rattle.korat_top_laws.proofs.traces.honest_law.Goals as goal

pub returns : goal.returns
returns g c = honest
