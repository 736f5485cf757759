use Rattle.std.proofs.Common.{length, ap}
use Rattle.kr_lex.proofs.Lifted.{token_at, lift}
use Rattle.kr_lex.proofs.piece.first_piece.Goals as goal

pub returns-in-Some : goal.returns-in-Some
returns-in-Some c =
    token_at c.args.text.now c.args.inside c.in-Some.kind (length c.contract_spelling.result.now) (ap length c.contract_spelling.ensures) c.in-Some.ensures.inside c.in-Some.ensures.found

pub returns-in-None : goal.returns-in-None
returns-in-None c = lift c.args.inside c.args.text.now c.plain_piece.result c.plain_piece.ensures c.in-None.ensures.none
