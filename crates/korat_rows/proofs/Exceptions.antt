-- The values of the calls, as the checker computes them.
use Rattle.std.proofs.Common.{refl}
use Rattle.kr_classes_table.specs.Table.{table_of}
use Rattle.kr_classes_table.specs.Constants.{values_of, is_constant, evaluated, constant_width}
use Rattle.kr_classes_table.specs.Rules.{class_fault}
use Rattle.kr_types_meaning.specs.Typing.{judged, type_fault}
use Rattle.kr_mean.specs.Steps.{bind}
use Rattle.kr_mean.specs.Thrown.{attempted}
use Rattle.kr_mean.specs.Meaning.{eval, exec, value, body_of}
use Rattle.kr_mean.specs.Heaps.{heap_of}
use Rattle.kr_mean.specs.Verdicts.{verdict_of}
use Rattle.korat_rows.specs.Exceptions.{Worked}

pub worked : Worked
unfolding table_of class_fault values_of is_constant evaluated constant_width judged type_fault bind attempted eval exec value body_of heap_of verdict_of
worked = record {
  thrown = refl;
  thrown_null = refl;
  caught = refl;
  caught_above = refl;
  first_that_fits = refl;
  trap_caught = refl;
  trap_passes = refl;
  reads_of_both = refl;
  too_long_passes = refl;
  spent_passes = refl;
  heap_stays = refl;
  locals_end = refl;
  thrown_again = refl;
  break_leaves = refl;
  object_of_trap = refl;
  same_object = refl;
  after_the_blocks_locals = refl;
  caught_ends = refl;
  call_leaves = refl;
  constructor_leaves = refl;
  caught_once = refl;
  thrown_by_a_clause = refl;
  thrown_as_a_trap = refl;
  no_return_passes = refl;
  signals_true = refl;
  not_thrown = refl;
  signals_false = refl;
  null_thrown = refl;
  trap_signalled = refl;
  nothing_fits = refl;
  each_that_fits = refl;
  all_are_counted = refl;
  signals_traps = refl;
  no_ensures = refl;
  old_signals = refl;
  named_object = refl;
  named_trap = refl;
  name_before = refl;
  rep_ok_first = refl;
  exact = refl;
  one_short = refl;
  nothing_thrown = refl;
  ensures_alone = refl;
  signals_alone = refl;
  its_fields = refl;
  arguments_kept = refl;
  old_and_new = refl;
  no_return = refl;
  too_long = refl;
  spent = refl;
  thrown_before = refl;
  thrown_after = refl;
  unknown_class = refl;
  signals_writes = refl;
  signals_of_static = refl;
  jumps_in_loop = refl;
  jumps_alone = refl;
}
