use Rattle.kr_board.proofs.Staying.{quiet_stays}
use Rattle.kr_board.proofs.board.Board.give_up.Goals as goal

pub returns-clause-stays : goal.returns-clause-stays
returns-clause-stays g c = quiet_stays c.args.self.now _ _ _ c.release.new.self tt c.release.ensures
