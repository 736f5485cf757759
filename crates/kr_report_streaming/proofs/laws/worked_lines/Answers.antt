use Rattle.kr_report_streaming.proofs.Worked.{worked}
use Rattle.kr_report_streaming.proofs.laws.worked_lines.Goals as goal

pub returns : goal.returns
returns c = worked
