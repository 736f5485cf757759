use Rattle.kr_pure.proofs.Walk.{all_code}
use Rattle.kr_pure.proofs.laws.all_law.Goals as goal

pub returns : goal.returns
returns c = all_code
