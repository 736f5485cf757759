use Rattle.kr_step_tests.proofs.step.count_above.Given as goal

abbrev pub ghosts-runs_above : goal.ghosts-runs_above
ghosts-runs_above a = record { name = a.blank.name; parts = a.blank.parts }
