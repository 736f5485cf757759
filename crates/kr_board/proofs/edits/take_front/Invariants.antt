use Rattle.kr_survey.specs.Joins.{lists}
use Rattle.kr_board.proofs.Fronts.{Moved}
use Rattle.kr_board.proofs.edits.take_front.Given as goal

abbrev pub invariant-loop-i : goal.invariant-loop-i
invariant-loop-i g l = Moved (lists l.initial.kept.items) l.gone l.i l.kept.items l.front
