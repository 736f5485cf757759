use Rattle.kr_fin_upgrade.proofs.Carries.{upgraded}
use Rattle.kr_fin_upgrade.proofs.laws.upgrade_law.Goals as goal

pub returns : goal.returns
returns c = upgraded
