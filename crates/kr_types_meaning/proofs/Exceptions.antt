-- The answers, as the checker computes them.
use Rattle.std.proofs.Common.{refl}
use Rattle.kr_classes_table.specs.Table.{table_of}
use Rattle.kr_classes_table.specs.Rules.{class_fault}
use Rattle.kr_classes_table.specs.Constants.{is_constant, evaluated, constant_width, values_of}
use Rattle.kr_types_meaning.specs.Typing.{judged, type_fault}
use Rattle.kr_types_meaning.specs.Exceptions.{Worked}

pub worked : Worked
unfolding table_of class_fault is_constant evaluated constant_width values_of judged type_fault
worked = record {
  t41 = refl;
  t41_number = refl;
  t41_fine = refl;
  t42 = refl;
  t42_unknown = refl;
  t42_fine = refl;
  t4_caught = refl;
  t3_ended = refl;
  t43 = refl;
  t43_unnamed = refl;
  t43_untyped = refl;
  t43_fine = refl;
  t28 = refl;
  t4_signals = refl;
  t38_fine = refl;
  t38 = refl;
}
