use Rattle.korat_top_laws.proofs.Upgraded.{upgraded}
use Rattle.korat_top_laws.proofs.laws.upgraded_law.Goals as goal

pub returns : goal.returns
returns c = upgraded
