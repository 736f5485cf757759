use Rattle.std.proofs.Common.{arith}
use Rattle.std.proofs.lemmas.List.{take_rest}
use Rattle.kr_lex.proofs.Comments.{line_gap}
use Rattle.kr_lex.proofs.piece.line_comment.Goals as goal

pub returns : goal.returns
returns c =
    let n = rw (take_rest c.args.text.now 2) at c.line_len.ensures in
    let h = line_gap c.args.text.now c.line_len.result c.requires.some c.requires.first c.requires.second c.requires.no_contract n in
    (omega arith, h.0, h.1)
