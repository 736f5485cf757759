-- Words worked by computing.
use Rattle.std.proofs.Common.{refl}
use Rattle.std.specs.Fmt.{digits}
use Rattle.clap.proofs.OnLiterals.{clap_on_literals}
use Rattle.kr_base.specs.Bounds.{less}
use Rattle.kr_args.specs.Reading.{command_of}
use Rattle.korat_rows.specs.WorkedWords.{WorkedWords}

pub worked : WorkedWords
unfolding command_of clap_on_literals digits less
worked = record {
  no_words = refl;
  plain = refl;
  limit = refl;
  equals = refl;
  greatest = refl;
  no_limit = refl;
  past_greatest = refl;
  padded = refl;
  signed = refl;
  spans = refl;
  two_dots = refl;
  padded_cut = refl;
  no_cut = refl;
  no_value = refl;
  twice = refl;
  between = refl;
  unknown = refl;
  workers = refl;
  no_workers = refl;
  too_many_workers = refl;
  padded_workers = refl;
  workers_twice = refl;
  trace = refl;
  trace_with_a_value = refl;
  trace_twice = refl;
  window = refl;
  window_of_one = refl;
  no_window = refl;
  padded_window = refl;
  signed_window = refl;
  past_widest = refl;
  window_twice = refl;
  window_without_a_value = refl;
  deques = refl;
  deques_with_a_window = refl;
  deques_with_the_default_window = refl;
  deques_with_a_trace = refl;
  board_by_name = refl;
  pool_in_capitals = refl;
  pool_without_a_name = refl;
  pool_of_no_name = refl;
  pool_twice = refl;
  no_source = refl;
  checked = refl;
  sixteen = refl;
  seventeen = refl;
  check_has_no_workers = refl;
  check_has_no_trace = refl;
  check_has_no_window = refl;
  check_has_no_pool = refl;
  check_has_no_limit = refl;
  dashes = refl;
  empty_names = refl;
  demo = refl;
  demo_by_workers = refl;
  demo_has_no_trace = refl;
  demo_has_no_window = refl;
  demo_has_no_pool = refl;
  demo_of_none = refl;
  demo_too_large = refl;
  test = refl;
  test_in_a_span = refl;
  test_without_source = refl;
  test_without_method = refl;
  test_by_workers = refl;
  test_with_a_window = refl;
  test_by_deques = refl;
  test_by_deques_with_a_trace = refl;
  test_of_no_limit = refl;
  list_of_a_method = refl;
  shard = refl;
  shard_of_all = refl;
  shard_of_nothing = refl;
  shard_backwards = refl;
  shard_has_no_limit = refl;
  shard_by_workers = refl;
  shard_has_no_window = refl;
  shard_has_no_pool = refl;
  shard_has_no_trace = refl;
  emit = refl;
  emit_of_all = refl;
  emit_without_source = refl;
  emit_has_no_workers = refl;
  emit_has_no_trace = refl;
  merge = refl;
  merge_of_none = refl;
  upgrade = refl;
  upgrade_of_none = refl;
  upgrade_of_two = refl;
  help = refl;
  help_word = refl;
}
