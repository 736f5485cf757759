-- The examples of numbers of both widths, by computing.
use Rattle.std.proofs.Common.{refl}
use Rattle.kr_classes_table.specs.Table.{table_of}
use Rattle.kr_space_meaning.specs.Names.{array_type, class_of, meant}
use Rattle.kr_space_meaning.specs.Bounds.{setting_of, width_for, root_domain, problem_in}
use Rattle.kr_space_meaning.specs.Faults.{faults_in}
use Rattle.kr_space_meaning.specs.LongExamples.{LongProblems, LongRefusals}

pub long_problems : LongProblems
unfolding table_of array_type class_of meant setting_of width_for root_domain problem_in faults_in
long_problems = record { of_a_parameter = refl }

pub long_refusals : LongRefusals
unfolding table_of array_type class_of meant setting_of width_for root_domain problem_in faults_in
long_refusals = record {
  ends_of_int = refl;
  above_int = refl;
  below_int = refl;
  range_to_the_greatest = refl;
  range_above_int = refl;
  range_from_below_int = refl;
  empty_range_past_int = refl;
  beside_int = refl;
  ends_of_long = refl;
  truth_for_long = refl;
  null_for_long = refl;
  high_bits = refl;
  long_twice = refl;
  long_elements = refl;
  ints_for_longs = refl;
}
