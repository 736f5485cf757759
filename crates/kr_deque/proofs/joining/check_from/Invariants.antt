use Rattle.std.proofs.Common.{◌≡◌, false, take}
use Rattle.kr_base.specs.declared.span.Bound.TheVariants.{At}
use Rattle.kr_base.specs.Bounds.{less}
use Rattle.kr_survey.specs.Spans.{Adjoins}
use Rattle.kr_deque_hands.specs.Pieces.{spans_of}
use Rattle.kr_deque.proofs.joining.check_from.Given as goal

abbrev pub invariant-loop-piece : goal.invariant-loop-piece
invariant-loop-piece g l = Adjoins (At l.asked.after) (spans_of (take l.piece-index l.pieces)) l.at × (less l.asked.upto l.at ≡ false)
