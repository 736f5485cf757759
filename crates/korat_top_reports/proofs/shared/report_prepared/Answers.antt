use Rattle.std.proofs.Common.{refl, sym, subst}
use Rattle.std.specs.Prelude.{IfOk}
use Rattle.kr_args.specs.declared.forms.Search.{Search}
use Rattle.kr_args.specs.declared.forms.Search.TheVariants as searches
use Rattle.kr_space_problem.specs.Posed.{posed}
use Rattle.korat_top_reports.specs.Reports.{EndsReport, Reports, builders_of, shard_of, tally_of}
use Rattle.korat_top_reports.proofs.Reporting.{reported, reported_ok}
use Rattle.korat_top_reports.proofs.shared.report_prepared.Goals as goal

pub returns-in-List-clause-ends : goal.returns-in-List-clause-ends
returns-in-List-clause-ends g c =
    let taken = g.K.Sink.taken in
    let faults = g.K.Sink.faults in
    let P = posed c.args.prepared.now.problem in
    subst (λ (s : Search). IfOk c.list.result (EndsReport taken faults s P c.args.out.now c.list.new.out)) (sym c.in-List.is) c.list.ensures.ends

pub returns-in-Test-clause-ends : goal.returns-in-Test-clause-ends
returns-in-Test-clause-ends g c =
    let taken = g.K.Sink.taken in
    let faults = g.K.Sink.faults in
    let P = posed c.args.prepared.now.problem in
    subst (λ (s : Search). IfOk c.list-in-Test.result (EndsReport taken faults s P c.args.out.now c.list-in-Test.new.out)) (sym c.in-Test.is) c.list-in-Test.ensures.ends

pub returns-in-Demo-clause-ends : goal.returns-in-Demo-clause-ends
returns-in-Demo-clause-ends g c =
    let taken = g.K.Sink.taken in
    let faults = g.K.Sink.faults in
    let P = posed c.args.prepared.now.problem in
    subst (λ (s : Search). EndsReport taken faults s P c.args.out.now c.count_shared.new.out c.count_shared.result) (sym c.in-Demo.is)
    (reported taken faults P c.args.out.now c.count_shared.new.out c.count_shared.result (Reports (searches.Demo c.in-Demo.n c.in-Demo.workers) P) (tally_of c.in-Demo.n P) refl c.count_shared.ensures)

pub returns-in-Shard-clause-ends : goal.returns-in-Shard-clause-ends
returns-in-Shard-clause-ends g c =
    let taken = g.K.Sink.taken in
    let faults = g.K.Sink.faults in
    let P = posed c.args.prepared.now.problem in
    subst (λ (s : Search). IfOk c.shard.result (EndsReport taken faults s P c.args.out.now c.shard.new.out)) (sym c.in-Shard.is)
    (reported_ok taken faults P c.args.out.now c.shard.new.out (Reports (searches.Shard c.in-Shard.ask) P) (shard_of c.in-Shard.ask P) c.shard.result refl c.shard.ensures.ends)

pub returns-in-Emit-clause-ends : goal.returns-in-Emit-clause-ends
returns-in-Emit-clause-ends g c =
    let taken = g.K.Sink.taken in
    let faults = g.K.Sink.faults in
    let P = posed c.args.prepared.now.problem in
    subst (λ (s : Search). IfOk c.emit.result (EndsReport taken faults s P c.args.out.now c.emit.new.out)) (sym c.in-Emit.is)
    (reported_ok taken faults P c.args.out.now c.emit.new.out (Reports (searches.Emit c.in-Emit.ask) P) (builders_of c.in-Emit.ask P) c.emit.result refl c.emit.ensures.ends)
