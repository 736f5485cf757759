use Rattle.std.proofs.Common.{◌≡◌, ◌++◌, List, ℕ, drop}
use Rattle.kr_base.specs.Told.{Added}
use Rattle.kr_text.specs.Texts.{joined}
use Rattle.kr_text.proofs.texts.put_pieces.Given as goal

abbrev pub invariant-loop-piece : goal.invariant-loop-piece
invariant-loop-piece g l = (sent : List ℕ) × (joined l.pieces ≡ sent ++ joined (drop l.piece-index l.pieces)) × Added g.K.Sink.taken g.K.Sink.faults l.fn.out l.out sent
