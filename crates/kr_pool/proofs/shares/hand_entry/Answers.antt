use Rattle.kr_core.specs.Rows.{drained}
use Rattle.kr_survey.specs.Listings.{listed_in}
use Rattle.kr_pool.proofs.Handed.{reaches_by}
use Rattle.kr_pool.proofs.shares.hand_entry.Goals as goal

pub returns-in-Ok-clause-reaches : goal.returns-in-Ok-clause-reaches
returns-in-Ok-clause-reaches g c =
    reaches_by g.T.Taker.takes (listed_in g.N.Run.all g.N.Run.span) (drained c.args.alone.now.log) (drained c.next.new.self.log) c.in-Ok.rows c.args.taker.now c.args.out.now c.hand_over.new.taker c.hand_over.new.out c.hand_over.result c.in-Ok.ensures.rows
    c.in-Ok.ensures.given c.hand_over.ensures.hands
