use Rattle.kr_survey.proofs.Walks.{scan_law}
use Rattle.kr_survey.proofs.laws.scan_law.Goals as goal

pub returns : goal.returns
returns g c = scan_law
