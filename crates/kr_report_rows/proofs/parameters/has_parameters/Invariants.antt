use Rattle.std.proofs.Common.{◌≡◌, List, ℕ, drop}
use Rattle.std.specs.Prelude.{flat_map}
use Rattle.kr_space_layout.specs.Bounds.{bare}
use Rattle.kr_report.specs.Joined.{are_any}
use Rattle.kr_report_rows.specs.Parts.{parameter_named}
use Rattle.kr_report_rows.proofs.parameters.has_parameters.Given as goal

-- there are some only if some are left
abbrev pub invariant-loop-entry : goal.invariant-loop-entry
invariant-loop-entry l = (names : List (List ℕ)) → are_any (flat_map (parameter_named (bare l.layout) names) l.structure) ≡ are_any (flat_map (parameter_named (bare l.layout) names) (drop l.entry-index l.structure))
