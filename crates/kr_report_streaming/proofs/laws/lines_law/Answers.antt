use Rattle.kr_report_streaming.proofs.Law as law
use Rattle.kr_report_streaming.proofs.laws.lines_law.Goals as goal

pub returns : goal.returns
returns c = law.lines_law c.mapped_law.ensures
