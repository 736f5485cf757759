use Rattle.kr_pool_desk.proofs.Observed.{observes_report}
use Rattle.kr_pool_desk.proofs.table.Table.report.Goals as goal

pub returns-clause-observed : goal.returns-clause-observed
returns-clause-observed g c =
    let n = g.N.Run in
    observes_report n.all n.span n.cuts n.opening g.N.Crew.workers _ _ _ _ _ _ n.limit c.args.lease c.args.part c.answer-reported.result c.run_law.ensures c.run_law-2.ensures c.answer-reported.ensures.total c.answer-reported.ensures.answer c.answer-reported.ensures.within
