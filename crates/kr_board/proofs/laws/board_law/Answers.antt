use Rattle.kr_board.proofs.Whole.{board_law}
use Rattle.kr_board.proofs.laws.board_law.Goals as goal

pub returns : goal.returns
returns g c = board_law
