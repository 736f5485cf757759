use Rattle.korat_top_laws.proofs.Logs.{log_back}
use Rattle.korat_top_laws.proofs.traces.log_law.Goals as goal

pub returns : goal.returns
returns c = log_back
