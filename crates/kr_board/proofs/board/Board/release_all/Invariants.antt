use Rattle.kr_board.proofs.Disowning.{Released}
use Rattle.kr_board.proofs.board.Board.release_all.Given as goal

abbrev pub invariant-loop-i : goal.invariant-loop-i
invariant-loop-i g l = Released l.fn.self l.i l.self
