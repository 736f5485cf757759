use Rattle.std.proofs.Common.{arith}
use Rattle.std.proofs.lemmas.List.{take_rest}
use Rattle.kr_lex.proofs.Comments.{block_gap}
use Rattle.kr_lex.proofs.piece.block_comment.Goals as goal

pub returns-in-Some : goal.returns-in-Some
returns-in-Some c =
    let found = rw (take_rest c.args.text.now 2) at c.in-Some.ensures.found in
    let h = block_gap c.args.text.now c.in-Some.len c.requires.some c.requires.first c.requires.second found in
    (omega arith, h.0, h.1)
