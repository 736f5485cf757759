use Rattle.kr_pool_desk.proofs.Observed.{observes_take}
use Rattle.kr_pool_desk.proofs.table.Table.take.Goals as goal

pub returns-clause-observed : goal.returns-clause-observed
returns-clause-observed g c =
    let n = g.N.Run in
    observes_take n.all n.span n.cuts n.opening g.N.Crew.workers _ _ _ _ _ _ n.limit c.args.seat.now.number c.give-taken.result c.run_law.ensures c.run_law-2.ensures c.give-taken.ensures.total c.give-taken.ensures.answer
