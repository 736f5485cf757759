use Rattle.std.proofs.Common.{[], Some, None}
use Rattle.kr_pool_tests.proofs.tests.rounds.in_turns.Given as goal

abbrev pub ghosts-start_in_turns-N-Run : goal.ghosts-start_in_turns-N-Run
ghosts-start_in_turns-N-Run g a = record { all = a.survey.now.list; span = a.span; cuts = a.cuts.now; opening = []; window = Some 4096; limit = None }

abbrev pub ghosts-start_in_turns-N-Crew : goal.ghosts-start_in_turns-N-Crew
ghosts-start_in_turns-N-Crew g a = record { workers = a.workers }

abbrev pub ghosts-start_in_turns-N-Ledger : goal.ghosts-start_in_turns-N-Ledger
ghosts-start_in_turns-N-Ledger g a = record { name = a.calls.name; parts = a.calls.parts }

abbrev pub ghosts-start_in_turns-D-Ledger : goal.ghosts-start_in_turns-D-Ledger
ghosts-start_in_turns-D-Ledger g a = record { name = a.tap.name; parts = a.tap.parts }
