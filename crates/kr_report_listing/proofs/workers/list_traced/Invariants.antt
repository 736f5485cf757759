use Rattle.std.specs.Prelude.{[], Some}
use Rattle.kr_mean.specs.Entries.{all_entries}
use Rattle.kr_core.specs.Cutting.{cuts_for}
use Rattle.kr_report_streaming.specs.Lines.{line_of}
use Rattle.kr_space_problem.specs.Posed.{posed}
use Rattle.kr_survey.specs.Mapping.{entries_by}
use Rattle.kr_report_listing.proofs.workers.list_traced.Given as goal

abbrev pub ghosts-list_run-N-Run : goal.ghosts-list_run-N-Run
ghosts-list_run-N-Run g a =
    let P = posed a.prepared.now.problem in
    record { all = entries_by (line_of P) (all_entries P); span = a.span; cuts = cuts_for a.span a.workers; opening = []; window = Some a.window; limit = Some a.limit }

abbrev pub ghosts-list_run-N-Crew : goal.ghosts-list_run-N-Crew
ghosts-list_run-N-Crew g a = record { workers = a.workers }

abbrev pub ghosts-list_run-N-Ledger : goal.ghosts-list_run-N-Ledger
ghosts-list_run-N-Ledger g a = record { name = a.calls.name; parts = a.calls.parts }

abbrev pub ghosts-list_run-D-Ledger : goal.ghosts-list_run-D-Ledger
ghosts-list_run-D-Ledger g a = record { name = a.tap.name; parts = a.tap.parts }
