use Rattle.korat_top_laws.proofs.Traced.{traced}
use Rattle.korat_top_laws.proofs.laws.traced_law.Goals as goal

pub returns : goal.returns
returns c = traced
