use Rattle.std.proofs.Common.{[], ◌∷◌}
use Rattle.kr_deque.proofs.Listed.{goes_last, goes_further, rest_ahead}
use Rattle.kr_deque.proofs.listing.scan_rest.Goals as goal

pub returns-in-None-rest-clause-found : goal.returns-in-None-rest-clause-found
returns-in-None-rest-clause-found g c =
    let s = c.loop.invariant in
    goes_last (g.S.Survey.all c.args.survey.now) c.args.pieces.now.items c.loop.pieces.items c.push.new.self.items (c.args.span ∷ []) c.loop.span c.in-Ok.piece c.in-Ok.rest s.4 s.3 c.in-Ok.ensures.piece c.in-Ok.ensures.parts c.in-Ok-push.ensures.items c.in-None-rest.is

pub loop-preserved : goal.loop-preserved
loop-preserved g c =
    let s = c.loop.invariant in (
      tt,
      tt,
      c.scan_piece.ensures.made,
      rest_ahead c.loop.span c.in-Ok.piece.span c.in-Ok.rest c.in-Some-rest.rest s.3 c.in-Ok.ensures.parts c.in-Some-rest.is,
      goes_further (g.S.Survey.all c.args.survey.now) c.args.pieces.now.items c.loop.pieces.items c.push.new.self.items (c.args.span ∷ []) c.loop.span c.in-Ok.piece c.in-Ok.rest c.in-Some-rest.rest s.4 s.3 c.in-Ok.ensures.piece c.in-Ok.ensures.parts c.in-Ok-push.ensures.items c.in-Some-rest.is,
    )
