use Rattle.korat_top_reports.proofs.alone.report_alone.Given as goal

abbrev pub ghosts-report_found : goal.ghosts-report_found
ghosts-report_found g a = record { name = a.blank.name; parts = a.blank.parts }
