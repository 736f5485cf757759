use Rattle.std.proofs.Common.{◌≡◌, ◌++◌}
use Rattle.std.specs.Vec.Iter.{into_iter_items}
use Rattle.kr_survey.specs.Joins.{lists}
use Rattle.kr_deque.specs.Cutting.{parts_at, alone}
use Rattle.kr_deque.proofs.cutting.parts_of.Given as goal

abbrev pub invariant-loop-cut : goal.invariant-loop-cut
invariant-loop-cut l =
    (l.rest.upto ≡ l.span.upto)
    × (lists l.spans.items ++ alone (parts_at l.rest.after (into_iter_items l.cut-iterator) l.span.upto) ≡ alone (parts_at l.span.after l.fn.cuts.items l.span.upto))
