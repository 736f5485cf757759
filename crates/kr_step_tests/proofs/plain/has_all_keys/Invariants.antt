use Rattle.kr_step_tests.proofs.plain.has_all_keys.Given as goal

abbrev pub ghosts-has_keys : goal.ghosts-has_keys
ghosts-has_keys a = record { name = a.blank.name; parts = a.blank.parts }
