use Rattle.std.proofs.Common.{◌≡◌, map, drop}
use Rattle.kr_classes_table.specs.Types.{ArrayType}
use Rattle.kr_classes_table.specs.Arrays.{array_number, array_number_from}
use Rattle.kr_classes_names.specs.Types.{type_at}
use Rattle.kr_code_lowering.proofs.types.array_number.Given as goal

abbrev pub invariant-loop-number : goal.invariant-loop-number
invariant-loop-number l = array_number_from l.number (map (type_at l.types) (drop l.number l.arrays)) (ArrayType (type_at l.types l.element)) ≡ array_number (map (type_at l.types) l.arrays) (ArrayType (type_at l.types l.element))
