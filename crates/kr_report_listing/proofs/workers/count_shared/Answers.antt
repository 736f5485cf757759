use Rattle.std.proofs.Common.{ap, refl}
use Rattle.kr_base.specs.declared.span.Bound.TheVariants.{End}
use Rattle.kr_base.specs.declared.span.Span.{Span}
use Rattle.kr_mean.specs.Entries.{all_entries}
use Rattle.kr_mean.specs.declared.row.Row.{Row}
use Rattle.kr_space_problem.specs.Posed.{posed}
use Rattle.kr_survey.specs.Listings.{listed_in}
use Rattle.kr_survey.specs.Mapping.{entries_by}
use Rattle.kr_report_listing.proofs.Listings.{ends_tallied}
use Rattle.kr_report_streaming.proofs.Fresh.{fresh_counter}
use Rattle.kr_report_listing.proofs.workers.count_shared.Goals as goal

pub share-requires-clause-fresh : goal.share-requires-clause-fresh
share-requires-clause-fresh g c κs within = fresh_counter c.new-counter.result c.args.out.now c.new-counter.ensures

pub returns-in-Ok : goal.returns-in-Ok
returns-in-Ok g c =
    let survey = posed c.units_of-units.result.survey in
    let span : Span = record { after = c.empty.result; upto = End } in
    ends_tallied g.K.Sink.taken g.K.Sink.faults (posed c.args.prepared.now.problem) survey c.args.nodes span c.args.out.now c.close.new.out c.close.result (ap posed c.units_of-units.ensures) c.empty.ensures refl c.count_law.ensures
    (c.close.ensures.ends c.new-counter.result c.args.out.now (listed_in (entries_by (λ (row : Row). tt) (all_entries survey)) span) c.in-Ok.ensures.shares)

pub returns : goal.returns
returns g c =
    let survey = posed c.units_of-units.result.survey in
    let span : Span = record { after = c.empty.result; upto = End } in
    ends_tallied g.K.Sink.taken g.K.Sink.faults (posed c.args.prepared.now.problem) survey c.args.nodes span c.args.out.now c.close-in-Err.new.out c.close-in-Err.result (ap posed c.units_of-units.ensures) c.empty.ensures refl c.count_law.ensures
    (c.close-in-Err.ensures.ends c.new-counter.result c.args.out.now (listed_in (entries_by (λ (row : Row). tt) (all_entries survey)) span) c.in-Err.ensures.shares)
