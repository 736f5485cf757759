use Rattle.kr_survey.proofs.Mapping.{alike}
use Rattle.kr_survey.proofs.laws.mapped_law.Goals as goal

pub returns : goal.returns
returns g c f es = alike f es
