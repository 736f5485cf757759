use Rattle.kr_parse_laws.proofs.Complete.{completeness}
use Rattle.kr_parse_laws.proofs.laws.completeness.Goals as goal

pub returns : goal.returns
returns c = completeness
