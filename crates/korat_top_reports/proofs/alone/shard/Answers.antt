use Rattle.std.proofs.Common.{subst}
use Rattle.kr_base.specs.declared.span.Span.{Span}
use Rattle.kr_report.specs.Endings.{EndsListing}
use Rattle.kr_report_listing.specs.Listed.{listed}
use Rattle.kr_space_problem.specs.Posed.{posed}
use Rattle.kr_shard.specs.Texts.{first_text}
use Rattle.korat_top_reports.specs.Reports.{listing_of, span_in}
use Rattle.korat_top_reports.proofs.Sharding.{first_fails, listing_after}
use Rattle.korat_top_reports.proofs.alone.shard.Goals as goal

pub returns-in-Ok-put_first_line-clause-ends : goal.returns-in-Ok-put_first_line-clause-ends
returns-in-Ok-put_first_line-clause-ends g c =
    let P = posed c.args.prepared.now.problem in
    let ask = c.args.ask.now in
    listing_after g.K.Sink.taken g.K.Sink.faults c.args.out.now c.put_first_line.new.out c.list_alone.new.out (first_text (span_in ask)) (listing_of ask P) c.list_alone.result c.in-Ok-put_first_line.ensures
    (subst (λ (s : Span). EndsListing g.K.Sink.taken g.K.Sink.faults (listed P ask.limit s) c.put_first_line.new.out c.list_alone.new.out c.list_alone.result) c.in-Ok.ensures c.list_alone.ensures.ends)

pub returns-in-Err-put_first_line-clause-ends : goal.returns-in-Err-put_first_line-clause-ends
returns-in-Err-put_first_line-clause-ends g c =
    first_fails g.K.Sink.taken g.K.Sink.faults c.args.out.now c.put_first_line.new.out (first_text (span_in c.args.ask.now)) (listing_of c.args.ask.now (posed c.args.prepared.now.problem)) c.in-Err-put_first_line.ensures
