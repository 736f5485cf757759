use Rattle.std.proofs.Common.{◌≡◌, ◌++◌, List, length, Some}
use Rattle.std.specs.Vec.Iter.{into_iter_items, into_iter_len}
use Rattle.kr_survey.specs.Joins.{joined, lists}
use Rattle.kr_survey.specs.declared.taker.Room.TheVariants.{More}
use Rattle.kr_pool.proofs.handing.hand_over.Given as goal

abbrev pub invariant-loop-piece : goal.invariant-loop-piece
invariant-loop-piece g l =
    (joined (lists (l.yielded ++ into_iter_items l.piece-iterator)) ≡ l.fn.rows) × (into_iter_len l.piece-iterator ≡ length (into_iter_items l.piece-iterator))
    × (g.T.Taker.limit l.taker ≡ g.T.Taker.limit l.fn.taker)
    × ((start : g.row.T.Denot) (from : g.row.K.Denot) (done : List g.row.R.Denot) → g.T.Taker.takes start from done l.fn.taker l.fn.out (Some More) → g.T.Taker.takes start from (done ++ joined (lists l.yielded)) l.taker l.out (Some More))
