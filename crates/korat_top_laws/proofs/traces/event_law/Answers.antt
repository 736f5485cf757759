use Rattle.korat_top_laws.proofs.Lines.{event_back}
use Rattle.korat_top_laws.proofs.traces.event_law.Goals as goal

pub returns : goal.returns
returns c = event_back
