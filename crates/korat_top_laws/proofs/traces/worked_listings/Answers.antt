use Rattle.korat_top_laws.proofs.Examples.{worked}
use Rattle.korat_top_laws.proofs.traces.worked_listings.Goals as goal

pub returns : goal.returns
returns c = worked
