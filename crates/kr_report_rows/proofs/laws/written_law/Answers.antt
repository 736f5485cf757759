use Rattle.kr_report_rows.proofs.Walks.{written_is}
use Rattle.kr_report_rows.proofs.laws.written_law.Goals as goal

pub returns : goal.returns
returns c = λ problem w v. written_is problem w v
