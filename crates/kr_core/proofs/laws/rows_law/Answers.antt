use Rattle.kr_core.proofs.Rowing.{rows_law}
use Rattle.kr_core.proofs.laws.rows_law.Goals as goal

pub returns : goal.returns
returns g c = rows_law
