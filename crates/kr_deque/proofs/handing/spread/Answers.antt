use Rattle.kr_survey.specs.Listings.{listed_in}
use Rattle.kr_deque.proofs.handing.spread.Goals as goal

pub returns-in-Ok : goal.returns-in-Ok
returns-in-Ok g c =
    let es = listed_in (g.S.Survey.all c.args.survey.now) c.args.span in
    c.hand_listing.ensures es 0 (record { rows = c.in-Ok.ensures.rows; tried = c.in-Ok.ensures.tried; spent = c.in-Ok.ensures.spent }) c.args.taker.now c.args.out.now c.requires.fresh
