use Rattle.std.proofs.Common.{subst}
use Rattle.kr_base.specs.declared.span.Span.{Span}
use Rattle.kr_emit_meaning.specs.Emitted.{built, class_line}
use Rattle.kr_report.specs.Endings.{EndsListing}
use Rattle.kr_space_problem.specs.Posed.{posed}
use Rattle.korat_top_reports.specs.Reports.{span_in}
use Rattle.korat_top_reports.proofs.Sharding.{first_fails, listing_after}
use Rattle.korat_top_reports.proofs.building.build.Goals as goal

pub returns-in-Ok-put_class_line-clause-ends : goal.returns-in-Ok-put_class_line-clause-ends
returns-in-Ok-put_class_line-clause-ends g c =
    let P = posed c.args.prepared.now.problem in
    let ask = c.args.ask.now in
    listing_after g.K.Sink.taken g.K.Sink.faults c.args.out.now c.put_class_line.new.out c.build_alone.new.out class_line (built P ask.limit (span_in ask)) c.build_alone.result c.in-Ok-put_class_line.ensures
    (subst (λ (s : Span). EndsListing g.K.Sink.taken g.K.Sink.faults (built P ask.limit s) c.put_class_line.new.out c.build_alone.new.out c.build_alone.result) c.in-Ok.ensures c.build_alone.ensures)

pub returns-in-Err-put_class_line-clause-ends : goal.returns-in-Err-put_class_line-clause-ends
returns-in-Err-put_class_line-clause-ends g c =
    let ask = c.args.ask.now in
    first_fails g.K.Sink.taken g.K.Sink.faults c.args.out.now c.put_class_line.new.out class_line (built (posed c.args.prepared.now.problem) ask.limit (span_in ask)) c.in-Err-put_class_line.ensures
