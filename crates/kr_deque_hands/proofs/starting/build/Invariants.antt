use Rattle.std.proofs.Common.{◌≡◌, ◌++◌, ◌∷◌, length}
use Rattle.std.specs.Vec.Iter.{into_iter_items}
use Rattle.kr_survey.specs.Joins.{lists}
use Rattle.kr_deque_hands.specs.Building.{IsBuilt, EachAhead}
use Rattle.kr_deque_hands.proofs.starting.build.Given as goal

abbrev pub invariant-loop-list : goal.invariant-loop-list
invariant-loop-list g l =
    (l.yielded ++ into_iter_items l.list-iterator ≡ l.fn.spans.items) × EachAhead (into_iter_items l.list-iterator) × (length l.building.hands.items ≡ length l.yielded)
    × IsBuilt (l.fn.first.items ∷ lists l.yielded) l.building
