use Rattle.std.proofs.Common.{refl}
use Rattle.kr_report_listing.proofs.workers.list_traced.Goals as goal

pub list_run-traced-requires-clause-run : goal.list_run-traced-requires-clause-run
list_run-traced-requires-clause-run g c κs within = record { all_is = refl; span_is = refl; cuts_are = refl; fresh = refl; kept_is = refl; wanted_is = refl }

pub returns : goal.returns
returns g c = record { log = c.list_run-traced.result.log; ends = c.list_run-traced.ensures }
