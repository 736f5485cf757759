use Rattle.korat_top_laws.proofs.More.{more}
use Rattle.korat_top_laws.proofs.traces.more_law.Goals as goal

pub returns : goal.returns
returns g c = more
