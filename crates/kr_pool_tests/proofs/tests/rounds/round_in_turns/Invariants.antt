use Rattle.kr_pool_tests.proofs.tests.rounds.round_in_turns.Given as goal

abbrev pub ghosts-work_counted-L-Ledger : goal.ghosts-work_counted-L-Ledger
ghosts-work_counted-L-Ledger g a = record { name = a.runs.name; parts = a.runs.parts }

abbrev pub ghosts-work_counted-E-Ledger : goal.ghosts-work_counted-E-Ledger
ghosts-work_counted-E-Ledger g a = record { name = a.handed.name; parts = a.handed.parts }
