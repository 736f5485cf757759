use Rattle.kr_board.proofs.Parting.{part_law}
use Rattle.kr_board.proofs.laws.part_law.Goals as goal

pub returns : goal.returns
returns g c = part_law
