use Rattle.std.proofs.Common.{◌≡◌, drop}
use Rattle.kr_classes_table.specs.Arrays.{array_number, array_number_from}
use Rattle.kr_classes_names.specs.Types.{type_at}
use Rattle.kr_space_names.specs.Collected.{types_shown}
use Rattle.kr_space.proofs.array_domains.array_number.Given as goal

abbrev pub invariant-loop-at : goal.invariant-loop-at
invariant-loop-at l =
    array_number (types_shown l.types l.arrays) (type_at l.types l.number)
    ≡ array_number_from l.at (types_shown l.types (drop l.at l.arrays)) (type_at l.types l.number)
