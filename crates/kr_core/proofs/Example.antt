-- The worked run, by computing.
use Rattle.std.proofs.Common.{refl}
use Rattle.kr_base.specs.declared.span.Bound.TheVariants.{At, End}
use Rattle.std.specs.Prelude.{[], ◌∷◌, Some, None, true, false}
use Rattle.kr_base.specs.Bounds.{less}
use Rattle.kr_base.specs.declared.entry.Mark.TheVariants.{Spent}
use Rattle.kr_base.specs.Entries.{Ascends}
use Rattle.kr_base.proofs.Orders.{order}
use Rattle.kr_core.specs.declared.event.Event.TheVariants.{Take, Report, Drain}
use Rattle.kr_core.specs.declared.event.Reply.TheVariants.{Lease as Leased, Go, Done, Noted}
use Rattle.kr_core.specs.Counts.{IsHonest, HonestRuns}
use Rattle.kr_core.specs.Openings.{opening}
use Rattle.kr_core.specs.Examples.{k1, k2, k3, k4, entries, span, seg, st, lease, s0, s1, s2, s3, s4, s5, s6, s7, s8, s9, events, two, lines, Follow, last_two, WorkedRun}

follow : Follow s0 lines
unfolding less
follow = (
  record { fit = refl; new_is = refl; reply_is = (refl, refl, refl, refl) },
  (
    record { fit = refl; new_is = refl; reply_is = (refl, refl, refl, refl) },
    (
      record { fit = refl; new_is = refl; reply_is = ((refl, refl, refl, refl), refl) },
      (
        record { fit = refl; new_is = refl; reply_is = (refl, refl, refl, refl) },
        (
          record { fit = refl; new_is = refl; reply_is = refl },
          (
            record { fit = refl; new_is = refl; reply_is = refl },
            (
              record { fit = refl; new_is = refl; reply_is = refl },
              (
                record { fit = refl; new_is = refl; reply_is = (refl, refl, refl, refl) },
                (record { fit = refl; new_is = refl; reply_is = refl }, (record { fit = refl; new_is = refl; reply_is = refl }, (record { fit = refl; new_is = refl; reply_is = refl }, tt))),
              ),
            ),
          ),
        ),
      ),
    ),
  ),
)

honest3 : IsHonest entries s2 (Report 0 0 (At k1) 1 1 false)
unfolding less
honest3 = record { rows_are = refl; tried_are = refl; spent_is = (refl, tt) }

honest5 : IsHonest entries s4 (Report 1 1 (At k3) 0 1 true)
unfolding less
honest5 = record { rows_are = refl; tried_are = refl; spent_is = record { before = []; last = record { key = k3; mark = Spent }; split = refl; none_before = tt; last_spent = refl; key_is = refl } }

honest8 : IsHonest entries s7 (Report 3 0 (At k2) 0 1 false)
unfolding less
honest8 = record { rows_are = refl; tried_are = refl; spent_is = (refl, tt) }

honest : HonestRuns entries s0 events s9
honest =
    let f = follow in (
      Leased (lease 0 0 [] (At k2)),
      s1,
      tt,
      f.0,
      (
        Leased (lease 1 1 k2 End),
        s2,
        tt,
        f.1.0,
        (
          Go (lease 0 0 k1 (At k2)),
          s3,
          honest3,
          f.1.1.0,
          (
            Leased (lease 2 2 k3 End),
            s4,
            tt,
            f.1.1.1.0,
            (
              Done,
              s5,
              honest5,
              f.1.1.1.1.0,
              (
                Noted,
                s5,
                tt,
                f.1.1.1.1.1.0,
                (
                  Noted,
                  s6,
                  tt,
                  f.1.1.1.1.1.1.0,
                  (
                    Leased (lease 3 0 k1 (At k2)),
                    s7,
                    tt,
                    f.1.1.1.1.1.1.1.0,
                    (
                      Done,
                      s8,
                      honest8,
                      f.1.1.1.1.1.1.1.1.0,
                      (
                        Noted,
                        s9,
                        tt,
                        f.1.1.1.1.1.1.1.1.1.0,
                        (Noted, s9, tt, f.1.1.1.1.1.1.1.1.1.1.0, refl),
                      ),
                    ),
                  ),
                ),
              ),
            ),
          ),
        ),
      ),
    )

asc : Ascends entries
asc = (((order k1 k2).sound refl, ((order k1 k3).sound refl, ((order k1 k4).sound refl, tt))), (((order k2 k3).sound refl, ((order k2 k4).sound refl, tt)), (((order k3 k4).sound refl, tt), (tt, tt))))

whole : HonestRuns two (opening span []) (Take 4 0 ∷ Report 4 0 End 1 2 false ∷ Drain 1 ∷ []) last_two
unfolding less
whole = (
  Leased (lease 4 0 [] End),
  st (seg 0 (At []) (At []) End (Some 4) 0 0 ∷ []) 1 0 End false,
  tt,
  record { fit = refl; new_is = refl; reply_is = (refl, refl, refl, refl) },
  (
    Done,
    st (seg 0 (At []) End End None 1 2 ∷ []) 1 0 End false,
    record { rows_are = refl; tried_are = refl; spent_is = (refl, (refl, tt)) },
    record { fit = refl; new_is = refl; reply_is = refl },
    (Noted, st (seg 0 (At []) End End None 0 2 ∷ []) 1 0 End false, tt, record { fit = refl; new_is = refl; reply_is = refl }, refl),
  ),
)

pub worked : WorkedRun
unfolding less
worked = record {
  inside = (refl, refl, tt);
  begins = refl;
  ascends = asc;
  follow = follow;
  honest = honest;
  replayed = refl;
  closed = (refl, tt);
  listed = refl;
  drained_one = refl;
  taken_again = refl;
  stolen_by = refl;
  stolen_from = refl;
  given_up = refl;
  untouched_end = refl;
  lowered_end = refl;
  rest_end = refl;
  spent_end = refl;
  past_a_lowered_bound = refl;
  not_the_owner = refl;
  taken_already = refl;
  theft_from_closed = refl;
  fewer_rows = refl;
  whole = whole;
}
