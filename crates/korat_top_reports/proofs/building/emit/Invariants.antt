use Rattle.korat_top_reports.proofs.building.emit.Given as goal

abbrev pub ghosts-emit_by : goal.ghosts-emit_by
ghosts-emit_by g a = record { name = a.blank.name; parts = a.blank.parts }
