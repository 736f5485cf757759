use Rattle.std.proofs.Common.{[]}
use Rattle.kr_core.specs.Cutting.{cuts_for}
use Rattle.kr_pool.proofs.shares.share.Given as goal

abbrev pub ghosts-share_run-N-Run : goal.ghosts-share_run-N-Run
ghosts-share_run-N-Run g a = record { all = g.S.Survey.all a.survey.now; span = a.span; cuts = cuts_for a.span a.workers; opening = []; window = a.window; limit = g.T.Taker.limit a.taker.now }

abbrev pub ghosts-share_run-N-Crew : goal.ghosts-share_run-N-Crew
ghosts-share_run-N-Crew g a = record { workers = a.workers }

abbrev pub ghosts-share_run-N-Ledger : goal.ghosts-share_run-N-Ledger
ghosts-share_run-N-Ledger g a = record { name = a.calls.name; parts = a.calls.parts }

abbrev pub ghosts-share_run-D-Ledger : goal.ghosts-share_run-D-Ledger
ghosts-share_run-D-Ledger g a = record { name = a.tap.name; parts = a.tap.parts }
