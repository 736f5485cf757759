use Rattle.std.proofs.Common.{◌≡◌}
use Rattle.kr_classes_table.specs.Rules.{least}
use Rattle.kr_types_judging.specs.Shown.{least_shown}
use Rattle.kr_types.specs.Refusals.{faults_in}
use Rattle.kr_types.proofs.files.first_fault.Given as goal

abbrev pub invariant-loop-file : goal.invariant-loop-file
invariant-loop-file l = least_shown l.first ≡ least (faults_in l.trees l.file)
