use Rattle.korat_top_laws.proofs.RowLines.{rows_back}
use Rattle.korat_top_laws.proofs.traces.row_law.Goals as goal

pub returns : goal.returns
returns c = rows_back
