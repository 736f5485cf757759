use Rattle.kr_parse_laws.proofs.Sound.{soundness}
use Rattle.kr_parse_laws.proofs.laws.soundness.Goals as goal

pub returns : goal.returns
returns c = soundness
