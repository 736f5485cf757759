use Rattle.korat_top_laws.proofs.Merged.{merged}
use Rattle.korat_top_laws.proofs.laws.merged_law.Goals as goal

pub returns : goal.returns
returns c = merged
