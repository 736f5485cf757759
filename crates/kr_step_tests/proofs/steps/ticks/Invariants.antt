use Rattle.kr_step_tests.proofs.steps.ticks.Given as goal

abbrev pub ghosts-two : goal.ghosts-two
ghosts-two a = record { name = a.blank.name; parts = a.blank.parts }
