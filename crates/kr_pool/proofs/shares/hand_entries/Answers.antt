use Rattle.std.proofs.Common.{subst}
use Rattle.std.specs.Prelude.{Ok}
use Rattle.kr_core.specs.Rows.{drained}
use Rattle.kr_survey.specs.Listings.{listed_in}
use Rattle.kr_survey.specs.declared.taker.Room.{Room}
use Rattle.kr_pool.specs.Handing.{ReachesTo}
use Rattle.kr_pool.proofs.Handed.{shares_full, shares_then}
use Rattle.kr_pool.proofs.shares.hand_entries.Goals as goal

pub returns-in-Ok-Full-clause-shares : goal.returns-in-Ok-Full-clause-shares
returns-in-Ok-Full-clause-shares g c =
    let takes = g.T.Taker.takes in
    let es = listed_in g.N.Run.all g.N.Run.span in
    let workers = g.N.Crew.workers in
    let now = c.hand_entry.new in
    let full = subst (λ (room : Room). ReachesTo takes es (drained c.loop.here.log) (drained now.alone.log) c.loop.taker c.loop.out now.taker now.out (Ok room)) c.in-Ok-Full.field-0-is c.in-Ok-Full.ensures.reaches in
    let rest = shares_full takes es workers (drained c.loop.here.log) (drained now.alone.log) c.loop.taker c.loop.out now.taker now.out c.end_full.result full c.end_full.ensures.full c.end_full.ensures.drained in
    shares_then takes es workers (drained c.args.alone.log) (drained c.loop.here.log) c.args.taker.now c.args.out.now c.loop.taker c.loop.out now.taker now.out c.end_full.result c.loop.invariant.3 rest
