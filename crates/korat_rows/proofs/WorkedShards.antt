-- Small texts, read by computing.
use Rattle.std.proofs.Common.{refl}
use Rattle.std.specs.Fmt.{digits}
use Rattle.kr_base.specs.Bounds.{less}
use Rattle.kr_shard.specs.Shards.{shard_of}
use Rattle.korat_rows.specs.WorkedShards.{WorkedShards}

pub worked : WorkedShards
unfolding digits less shard_of
worked = record {
  first = refl;
  second = refl;
  spent = refl;
  none = refl;
  no_last = refl;
  nothing = refl;
  no_end = refl;
  backwards = refl;
  no_first = refl;
  equal_rows = refl;
  at_from = refl;
  above_to = refl;
  no_rest = refl;
  other_count = refl;
  too_few = refl;
  leading_zero = refl;
  too_large = refl;
  largest = refl;
  spent_below = refl;
  unended_last = refl;
  one_more = refl;
  more_bytes = refl;
}
