-- The predefined classes, worked by computing.
use Rattle.std.proofs.Common.{refl}
use Rattle.kr_classes_table.specs.Predefined.{predefined}
use Rattle.kr_classes_table.specs.Table.{table_of}
use Rattle.kr_classes_table.specs.Rules.{class_fault}
use Rattle.kr_classes_table.specs.Extended.{PredefinedRows}

pub predefined_rows : PredefinedRows
unfolding predefined table_of class_fault
predefined_rows = record {
  count = refl;
  none_broken = refl;
  first = refl;
  last = refl;
  own = refl;
  above_last = refl;
  above_arithmetic = refl;
  above_root = refl;
  extended = refl;
  above_extended = refl;
  unknown = refl;
  same_name = refl;
  most = refl;
  too_many = refl;
}
