use Rattle.std.proofs.Common.{ap, refl}
use Rattle.kr_base.specs.declared.span.Bound.TheVariants.{End}
use Rattle.kr_base.specs.declared.span.Span.{Span}
use Rattle.kr_mean.specs.Entries.{all_entries}
use Rattle.kr_mean.specs.declared.row.Row.{Row}
use Rattle.kr_space_problem.specs.Posed.{posed}
use Rattle.kr_survey.specs.Listings.{listed_in}
use Rattle.kr_survey.specs.Mapping.{entries_by}
use Rattle.kr_report_listing.proofs.Listings.{ends_tallied, runs_alone}
use Rattle.kr_report_streaming.proofs.Fresh.{fresh_counter}
use Rattle.kr_report_listing.proofs.alone.count_alone.Goals as goal

pub walk-put-requires : goal.walk-put-requires
walk-put-requires g c = fresh_counter c.new-counter.result c.args.out.now c.new-counter.ensures

pub returns-clause-ends : goal.returns-clause-ends
returns-clause-ends g c =
    let survey = posed c.units_of-units.result.survey in
    let span : Span = record { after = c.empty.result; upto = End } in
    ends_tallied g.K.Sink.taken g.K.Sink.faults (posed c.args.prepared.now.problem) survey c.args.nodes span c.args.out.now c.close.new.out c.close.result (ap posed c.units_of-units.ensures) c.empty.ensures refl c.count_law.ensures
    (c.close.ensures.ends c.new-counter.result c.args.out.now (listed_in (entries_by (λ (row : Row). tt) (all_entries survey)) span) c.walk-put.ensures.hands)

pub returns-clause-runs : goal.returns-clause-runs
returns-clause-runs g c = λ few.
    runs_alone (posed c.args.prepared.now.problem) (posed c.units_of-units.result.survey) c.empty.result c.walk-put.result c.args.runs.now c.walk-put.new.runs c.close.result (ap posed c.units_of-units.ensures) c.empty.ensures c.close.ensures.late few c.walk-put.ensures.runs
