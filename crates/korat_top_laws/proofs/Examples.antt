-- Three listings, by computing.
use Rattle.std.proofs.Common.{◌≡◌, [], ◌∷◌, true, false, refl, arith, inr}
use Rattle.std.specs.Prelude.{None, Some}
use Rattle.std.specs.Fmt.{digits}
use Rattle.kr_base.specs.declared.span.Bound.TheVariants.{At, End}
use Rattle.kr_base.specs.declared.entry.Mark.TheVariants.{Valid, Spent}
use Rattle.kr_base.specs.Bounds.{less}
use Rattle.kr_base.specs.Entries.{Ascends}
use Rattle.kr_base.proofs.Orders.{order}
use Rattle.kr_core.specs.declared.event.Reply.TheVariants.{Lease as Leased, Go, Done, Noted}
use Rattle.kr_core.specs.Counts.{HonestRuns}
use Rattle.kr_core.specs.Cutting.{cuts_for}
use Rattle.kr_core.specs.Examples.{k1, k2, lease, seg, span as all, st}
use Rattle.kr_core.specs.Openings.{opening}
use Rattle.kr_trace.specs.declared.ending.Last.TheVariants.{Listed}
use Rattle.korat_top_laws.specs.Ends.{EndsWhole}
use Rattle.korat_top_laws.specs.Listings.{IsLogged}
use Rattle.korat_top_laws.specs.More.{LeavesOut}
use Rattle.korat_top_laws.specs.Spent.{EndsAtSpent}
use Rattle.korat_top_laws.specs.Worked.{WorkedListings, cells, k0, lines, row, spent_cells, spent_log, spent_state, stopped_log, stopped_state, whole_log, whole_state}

ascends : Ascends cells
ascends = (((order k0 k1).sound refl, ((order k0 k2).sound refl, tt)), (((order k1 k2).sound refl, tt), (tt, tt)))

spent_ascends : Ascends spent_cells
spent_ascends = (((order k0 k1).sound refl, tt), (tt, tt))

whole_runs : HonestRuns cells (opening all (cuts_for all 1)) whole_log whole_state
unfolding less
whole_runs = (
  Leased (lease 0 0 [] End),
  st (seg 0 (At []) (At []) End (Some 0) 0 0 ∷ []) 1 0 End false,
  tt,
  record { fit = refl; new_is = refl; reply_is = (refl, refl, refl, refl) },
  (
    Done,
    st (seg 0 (At []) End End None 2 3 ∷ []) 1 0 End false,
    record { rows_are = refl; tried_are = refl; spent_is = (refl, (refl, (refl, tt))) },
    record { fit = refl; new_is = refl; reply_is = refl },
    (
      Noted,
      st (seg 0 (At []) End End None 2 3 ∷ []) 1 0 End false,
      tt,
      record { fit = refl; new_is = refl; reply_is = refl },
      (Noted, whole_state, tt, record { fit = refl; new_is = refl; reply_is = refl }, refl),
    ),
  ),
)

spent_runs : HonestRuns spent_cells (opening all (cuts_for all 1)) spent_log spent_state
unfolding less
spent_runs = (
  Leased (lease 0 0 [] End),
  st (seg 0 (At []) (At []) End (Some 0) 0 0 ∷ []) 1 0 End false,
  tt,
  record { fit = refl; new_is = refl; reply_is = (refl, refl, refl, refl) },
  (
    Done,
    spent_state,
    record {
      rows_are = refl;
      tried_are = refl;
      spent_is = record { before = record { key = k0; mark = Valid 7 } ∷ []; last = record { key = k1; mark = Spent }; split = refl; none_before = (refl, tt); last_spent = refl; key_is = refl };
    },
    record { fit = refl; new_is = refl; reply_is = refl },
    refl,
  ),
)

stopped_runs : HonestRuns cells (opening all (cuts_for all 1)) stopped_log stopped_state
unfolding less
stopped_runs = (
  Leased (lease 0 0 [] End),
  st (seg 0 (At []) (At []) End (Some 0) 0 0 ∷ []) 1 0 End false,
  tt,
  record { fit = refl; new_is = refl; reply_is = (refl, refl, refl, refl) },
  (
    Go (lease 0 0 k2 End),
    st (seg 0 (At []) (At k2) End (Some 0) 2 3 ∷ []) 1 0 End false,
    record { rows_are = refl; tried_are = refl; spent_is = (refl, (refl, (refl, tt))) },
    record { fit = refl; new_is = refl; reply_is = ((refl, refl, refl, refl), refl) },
    (
      Noted,
      st (seg 0 (At []) (At k2) End (Some 0) 0 3 ∷ []) 1 0 End false,
      tt,
      record { fit = refl; new_is = refl; reply_is = refl },
      (
        Noted,
        st (seg 0 (At []) (At k2) End None 0 3 ∷ []) 1 0 End false,
        tt,
        record { fit = refl; new_is = refl; reply_is = refl },
        (Noted, stopped_state, tt, record { fit = refl; new_is = refl; reply_is = refl }, refl),
      ),
    ),
  ),
)

whole : IsLogged cells all 1 (row k1 ∷ row k2 ∷ []) lines (Listed 2 3) whole_log
unfolding digits less
whole = record {
  new = whole_state;
  ascends = ascends;
  lines_are = (
    record { one_line = (refl, (refl, (refl, (refl, (refl, tt))))); no_last = refl; read = refl },
    (record { one_line = (refl, (refl, (refl, (refl, (refl, tt))))); no_last = refl; read = refl }, tt),
  );
  keys_are = refl;
  inside = refl;
  few = omega arith;
  shown_last = (omega arith, omega arith);
  runs = whole_runs;
  shown = (((omega arith, omega arith), refl, ((omega arith, omega arith, tt, omega arith, omega arith), refl, (omega arith, refl, (omega arith, refl, tt)))));
  closed = refl;
  says = refl;
}

ends : EndsWhole cells all 1 whole_log whole_state
unfolding less
ends = record { ascends = ascends; runs = whole_runs; closed = refl; unstopped = tt; unspent = refl }

at_spent : EndsAtSpent spent_cells all 1 k1 spent_log spent_state
unfolding less
at_spent = record { ascends = spent_ascends; runs = spent_runs; closed = refl; unstopped = refl; spent = refl }

left_out : LeavesOut cells all 1 1 k1 stopped_log stopped_state
unfolding less
left_out = record { ascends = ascends; runs = stopped_runs; closed = refl; small = omega arith; more = omega arith; past = inr (omega arith); last = refl }

pub worked : WorkedListings
unfolding digits less
worked = record {
  row_text = refl;
  failing_text = refl;
  listed_text = refl;
  tested_text = refl;
  more_text = refl;
  spent_text = refl;
  text = refl;
  keys = refl;
  read = refl;
  last_key = refl;
  whole_end = refl;
  row_end = refl;
  whole = whole;
  ends = ends;
  at_spent = at_spent;
  left_out = left_out;
  empty_cut = λ h. absurd (cc (h));
  empty_mark = tt;
  first_postcondition = (omega arith, omega arith);
  no_postcondition = λ h. absurd (omega (arith, h.0));
  empty_last = λ h. absurd (cc (h));
  other_seat = λ h. let no_seat : false ≡ true = h.1 in absurd (cc (no_seat));
  has_stop = λ h. h;
}
