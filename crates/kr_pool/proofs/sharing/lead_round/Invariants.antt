use Rattle.kr_pool.proofs.sharing.lead_round.Given as goal

abbrev pub ghosts-hand_counted-L-Ledger : goal.ghosts-hand_counted-L-Ledger
ghosts-hand_counted-L-Ledger g a = record { name = a.runs.name; parts = a.runs.parts }

abbrev pub ghosts-hand_counted-E-Ledger : goal.ghosts-hand_counted-E-Ledger
ghosts-hand_counted-E-Ledger g a = record { name = a.handed.name; parts = a.handed.parts }
