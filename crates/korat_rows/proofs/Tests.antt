-- The rows on tests, as the checker computes them.
use Rattle.std.proofs.Common.{refl}
use Rattle.kr_classes_table.specs.Table.{table_of}
use Rattle.kr_classes_table.specs.Constants.{values_of, is_constant, evaluated, constant_width}
use Rattle.kr_types_meaning.specs.Typing.{judged}
use Rattle.kr_mean.specs.Steps.{bind}
use Rattle.kr_mean.specs.Meaning.{eval, exec, value, body_of}
use Rattle.kr_base.specs.Bounds.{less}
use Rattle.kr_mean.specs.Space.{space_of}
use Rattle.kr_mean.specs.Heaps.{heap_of, walk}
use Rattle.kr_mean.specs.Runs.{end_on, read_slots, order_of}
use Rattle.kr_mean.specs.Verdicts.{verdict_of}
use Rattle.kr_mean.specs.Entries.{mark_of, all_of, all_entries}
use Rattle.korat_rows.specs.Tests.{Tests}

pub tests : Tests
unfolding less space_of heap_of walk table_of values_of is_constant evaluated constant_width judged bind eval exec value body_of verdict_of end_on read_slots order_of mark_of all_of all_entries
tests = record {
  passes = refl;
  without_contract = refl;
  first_false = refl;
  second_false = refl;
  rep_ok_false = refl;
  rep_ok_true_again = refl;
  body_traps = refl;
  no_return = refl;
  rep_ok_traps = refl;
  ensures_traps = refl;
  old_traps = refl;
  old_and_new = refl;
  two_olds = refl;
  parameter_kept = refl;
  exact = refl;
  one_short = refl;
  old_exact = refl;
  old_one_short = refl;
  body_spent = refl;
  decremented_behind = refl;
  compound_gives_new = refl;
  block_ends = refl;
  void_passes = refl;
  void_one_short = refl;
  two_exact = refl;
  two_one_short = refl;
  two_exact_after_body = refl;
  two_one_short_after_body = refl;
  olds_in_order = refl;
  olds_in_order_short = refl;
  olds_turned = refl;
  olds_of_two = refl;
  two_olds_exact = refl;
  two_olds_one_short = refl;
  number_after_requires = refl;
  number_round_requires = refl;
  requires_once = refl;
  requires_once_short = refl;
  old_after_or = refl;
  old_after_false = refl;
  contract_not_inherited = refl;
  contract_not_inherited_short = refl;
  inherited_with_contract = refl;
  old_spent = refl;
  old_spent_enough = refl;
  rep_ok_spent = refl;
  rep_ok_one_short = refl;
  no_return_in_ensures = refl;
  no_return_in_ensures_short = refl;
  no_return_in_body = refl;
  counted_up = refl;
  required = refl;
  initial_value_after_super = refl;
  statements_last = refl;
  initial_value_after_implied_super = refl;
  initial_values_of_own_class = refl;
  return_leaves = refl;
}
