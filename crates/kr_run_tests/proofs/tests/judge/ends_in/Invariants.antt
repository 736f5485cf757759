use Rattle.kr_run_tests.proofs.tests.judge.ends_in.Given as goal

abbrev pub ghosts-judged : goal.ghosts-judged
ghosts-judged a = record { name = a.blank.name; parts = a.blank.parts }
