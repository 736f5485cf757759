use Rattle.kr_deque.proofs.listing.join_all.Goals as goal

pub returns-in-Ok : goal.returns-in-Ok
returns-in-Ok g c =
    c.joined_law.ensures (g.S.Survey.all c.args.survey.now) c.args.span.now c.args.pieces.items c.in-Ok.listing c.ascends.ensures c.requires.ahead c.requires.all_ahead c.requires.honest c.in-Ok.ensures
