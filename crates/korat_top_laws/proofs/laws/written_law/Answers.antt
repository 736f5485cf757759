use Rattle.korat_top_laws.proofs.Merged.{written}
use Rattle.korat_top_laws.proofs.laws.written_law.Goals as goal

pub returns : goal.returns
returns c = written
