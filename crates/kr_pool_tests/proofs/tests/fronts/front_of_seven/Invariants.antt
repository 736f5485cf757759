use Rattle.std.proofs.Common.{[], None}
use Rattle.kr_pool_tests.proofs.tests.fronts.front_of_seven.Given as goal

abbrev pub ghosts-start_front-N-Run : goal.ghosts-start_front-N-Run
ghosts-start_front-N-Run g a = record { all = a.survey.now; span = a.span; cuts = a.cuts.now; opening = []; window = None; limit = None }

abbrev pub ghosts-start_front-N-Crew : goal.ghosts-start_front-N-Crew
ghosts-start_front-N-Crew g a = record { workers = a.workers }

abbrev pub ghosts-start_front-N-Ledger : goal.ghosts-start_front-N-Ledger
ghosts-start_front-N-Ledger g a = record { name = a.calls.name; parts = a.calls.parts }

abbrev pub ghosts-start_front-D-Ledger : goal.ghosts-start_front-D-Ledger
ghosts-start_front-D-Ledger g a = record { name = a.tap.name; parts = a.tap.parts }
