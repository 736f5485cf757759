-- Small texts, checked by computing.
use Rattle.std.proofs.Common.{refl}
use Rattle.std.specs.Fmt.{digits}
use Rattle.kr_base.specs.Bounds.{less}
use Rattle.kr_trace.specs.Checked.{checked}
use Rattle.kr_trace.specs.Worked.{WorkedTraces}

pub worked : WorkedTraces
unfolding digits less checked
worked = record {
  whole = refl;
  one_row_left_out = refl;
  cut_off = refl;
  other_drain = refl;
  other_count = refl;
  nothing = refl;
  no_end = refl;
  other_seat = refl;
  a_row_after = refl;
  twice = refl;
  failing = refl;
  no_verdict = refl;
  more = refl;
  stops_at_the_row = refl;
  spent = refl;
  none = refl;
}
