use Rattle.std.specs.Prelude.{Ok, Err}
use Rattle.kr_survey.specs.Listings.{listed_in}
use Rattle.kr_pool.proofs.Handed.{reaches_by}
use Rattle.kr_pool.proofs.sharing.hand_next.Goals as goal

pub returns-in-Err-hand_over-clause-comes : goal.returns-in-Err-hand_over-clause-comes
returns-in-Err-hand_over-clause-comes g c =
    reaches_by g.T.Taker.takes (listed_in g.N.Run.all g.N.Run.span) c.args.lead.now.0 c.drain.new.self.0 c.in-Ok.rows c.args.taker.now c.args.out.now c.hand_over.new.taker c.hand_over.new.out (Err c.in-Err-hand_over.halt) c.in-Ok.ensures.rows
    c.in-Ok.ensures.given c.in-Err-hand_over.ensures.hands

pub returns-in-Ok-hand_over-clause-comes : goal.returns-in-Ok-hand_over-clause-comes
returns-in-Ok-hand_over-clause-comes g c =
    reaches_by g.T.Taker.takes (listed_in g.N.Run.all g.N.Run.span) c.args.lead.now.0 c.drain.new.self.0 c.in-Ok.rows c.args.taker.now c.args.out.now c.hand_over.new.taker c.hand_over.new.out (Ok c.in-Ok-hand_over.room) c.in-Ok.ensures.rows
    c.in-Ok.ensures.given c.in-Ok-hand_over.ensures.hands
