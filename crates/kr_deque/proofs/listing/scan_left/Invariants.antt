use Rattle.std.proofs.Common.{◌≡◌, ◌++◌}
use Rattle.std.specs.Vec.Iter.{into_iter_items}
use Rattle.kr_deque_hands.specs.Pieces.{AllAhead}
use Rattle.kr_deque.specs.Found.{IsFound}
use Rattle.kr_deque.proofs.listing.scan_left.Given as goal

abbrev pub invariant-loop-span : goal.invariant-loop-span
invariant-loop-span g l =
    (l.yielded ++ into_iter_items l.span-iterator ≡ l.fn.left.items) × AllAhead (into_iter_items l.span-iterator) × g.S.Survey.made l.survey l.scratch
    × IsFound (g.S.Survey.all l.survey) l.fn.pieces.items l.yielded l.pieces.items
