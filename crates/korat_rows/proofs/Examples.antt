-- The entries of the small problems, as the checker computes them.
use Rattle.std.proofs.Common.{refl}
use Rattle.kr_classes_table.specs.Table.{table_of}
use Rattle.kr_classes_table.specs.Constants.{values_of, is_constant, evaluated, constant_width}
use Rattle.kr_types_meaning.specs.Typing.{judged}
use Rattle.kr_mean.specs.Steps.{bind}
use Rattle.kr_mean.specs.Meaning.{eval, exec, value, body_of}
use Rattle.kr_base.specs.Bounds.{less}
use Rattle.kr_mean.specs.Space.{space_of}
use Rattle.kr_mean.specs.Heaps.{heap_of, walk}
use Rattle.kr_mean.specs.Runs.{end_on, read_slots, order_of}
use Rattle.kr_mean.specs.Verdicts.{verdict_of}
use Rattle.kr_mean.specs.Entries.{mark_of, all_of, all_entries}
use Rattle.korat_rows.specs.Examples.{Worked}

pub worked : Worked
unfolding less space_of heap_of walk table_of values_of is_constant evaluated constant_width judged bind eval exec value body_of verdict_of end_on read_slots order_of mark_of all_of all_entries
worked = record {
  cell_listed = refl;
  cell_with_none_valid = refl;
  fuel_suffices = refl;
  number_not_entered = refl;
  field_not_read = refl;
  two_ints_listed = refl;
  two_nodes_listed = refl;
  nodes_before_null_listed = refl;
  two_subclasses_listed = refl;
  arrays_listed = refl;
  chains_listed = refl;
  sorted_listed = refl;
  tested_put_listed = refl;
  breadth_listed = refl;
  later_first_listed = refl;
  read_twice_listed = refl;
  next_is_ok_listed = refl;
  dispatched_listed = refl;
  dispatched_spent = refl;
  two_parameters_listed = refl;
  unknown_name_listed = refl;
  spent_ends_span = refl;
  behind_spent = refl;
  above_and_not_above = refl;
}
