use Rattle.korat_top_laws.proofs.Accepted.{accepted_is}
use Rattle.korat_top_laws.proofs.laws.accepted_law.Goals as goal

pub returns : goal.returns
returns c = accepted_is
