use Rattle.kr_report_streaming.proofs.Law as law
use Rattle.kr_report_streaming.proofs.laws.count_law.Goals as goal

pub returns : goal.returns
returns c = law.count_law c.mapped_law.ensures
