use Rattle.kr_pool_tests.proofs.tests.fronts.start_front.Given as goal

abbrev pub ghosts-begins_counted-L-Ledger : goal.ghosts-begins_counted-L-Ledger
ghosts-begins_counted-L-Ledger g a = record { name = a.runs.name; parts = a.runs.parts }

abbrev pub ghosts-begins_counted-E-Ledger : goal.ghosts-begins_counted-E-Ledger
ghosts-begins_counted-E-Ledger g a = record { name = a.handed.name; parts = a.handed.parts }
