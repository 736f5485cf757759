use Rattle.kr_deque_hands.proofs.Scanned.{spent_reach, piece_scanned, parts_scanned, few_scanned}
use Rattle.kr_deque_hands.proofs.scanning.scan_piece.Goals as goal

pub piece_of-requires : goal.piece_of-requires
piece_of-requires g c =
    spent_reach (g.S.Survey.all c.args.survey.now) c.args.span.now c.in_ok-part.part c.ascends.ensures c.requires.ahead c.scan_law.ensures c.in_ok-part.ensures.part

pub returns-clause-piece : goal.returns-clause-piece
returns-clause-piece g c =
    piece_scanned (g.S.Survey.all c.args.survey.now) c.args.span.now c.in_ok-whole.whole c.in_ok-part.part c.ascends.ensures c.requires.ahead c.scan_law.ensures c.in_ok-part.ensures.part c.in_ok-whole.ensures c.piece_of.result c.piece_of.ensures

pub returns-clause-parts : goal.returns-clause-parts
returns-clause-parts g c =
    parts_scanned (g.S.Survey.all c.args.survey.now) c.args.span.now c.in_ok-whole.whole c.in_ok-part.part c.ascends.ensures c.requires.ahead c.scan_law.ensures c.in_ok-part.ensures.part c.in_ok-whole.ensures c.piece_of.result c.piece_of.ensures

pub returns-clause-few : goal.returns-clause-few
returns-clause-few g c =
    few_scanned (g.S.Survey.all c.args.survey.now) c.args.span.now c.in_ok-whole.whole c.in_ok-part.part c.in_ok-part.ensures.part c.piece_of.result c.piece_of.ensures
