use Rattle.std.proofs.Common.{subst}
use Rattle.kr_base.specs.declared.span.Span.{Span}
use Rattle.kr_report.specs.Endings.{EndsListing}
use Rattle.kr_report_listing.specs.Listed.{listed}
use Rattle.kr_space_problem.specs.Posed.{posed}
use Rattle.korat_top_reports.proofs.alone.list.Goals as goal

pub returns-in-Ok-clause-ends : goal.returns-in-Ok-clause-ends
returns-in-Ok-clause-ends g c =
    subst (λ (s : Span). EndsListing g.K.Sink.taken g.K.Sink.faults (listed (posed c.args.prepared.now.problem) c.args.ask.now.limit s) c.args.out.now c.list_alone.new.out c.list_alone.result) c.in-Ok.ensures c.list_alone.ensures.ends
