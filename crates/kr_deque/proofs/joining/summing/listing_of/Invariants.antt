use Rattle.std.proofs.Common.{◌≡◌, ◌++◌, length}
use Rattle.std.specs.Vec.Iter.{into_iter_items, into_iter_len}
use Rattle.kr_deque.proofs.Summing.{IsSummed}
use Rattle.kr_deque.proofs.joining.summing.listing_of.Given as goal

abbrev pub invariant-loop-piece : goal.invariant-loop-piece
invariant-loop-piece g l = (l.yielded ++ into_iter_items l.piece-iterator ≡ l.fn.pieces.items) × (into_iter_len l.piece-iterator ≡ length (into_iter_items l.piece-iterator))
    × IsSummed l.yielded l.rows.items l.tried
