use Rattle.kr_fin_upgrade.proofs.Read.{read}
use Rattle.kr_fin_upgrade.proofs.laws.read_law.Goals as goal

pub returns : goal.returns
returns c = read
