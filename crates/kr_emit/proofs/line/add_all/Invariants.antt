use Rattle.std.proofs.Common.{◌≡◌, ◌++◌, take}
use Rattle.kr_text.specs.Lines.{line_bytes}
use Rattle.kr_text.specs.Texts.{joined}
use Rattle.kr_emit.proofs.line.add_all.Given as goal

abbrev pub invariant-loop-piece : goal.invariant-loop-piece
invariant-loop-piece l = line_bytes l.line ≡ line_bytes l.fn.line ++ joined (take l.piece-index l.pieces)
