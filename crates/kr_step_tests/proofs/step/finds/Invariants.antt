use Rattle.kr_step_tests.proofs.step.finds.Given as goal

abbrev pub ghosts-keys : goal.ghosts-keys
ghosts-keys a = record { name = a.blank.name; parts = a.blank.parts }
