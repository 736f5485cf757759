use Rattle.kr_space_problem.specs.Posed.{posed}
use Rattle.korat_top_reports.proofs.Reporting.{plain, traced}
use Rattle.korat_top_reports.proofs.shared.list.Goals as goal

pub returns-then-ask-clause-ends : goal.returns-then-ask-clause-ends
returns-then-ask-clause-ends g c =
    traced g.K.Sink.taken g.K.Sink.faults (posed c.args.prepared.now.problem) c.args.out.now c.list_traced.new.out c.list_traced.result c.args.ask.now c.in-Ok.span c.in-Ok.ensures c.if-ask.true c.list_traced.ensures

pub returns-else-ask-clause-ends : goal.returns-else-ask-clause-ends
returns-else-ask-clause-ends g c =
    plain g.K.Sink.taken g.K.Sink.faults (posed c.args.prepared.now.problem) c.args.out.now c.list_plain.new.out c.list_plain.result c.args.ask.now c.if-ask.false c.list_plain.ensures
