use Rattle.kr_deque_hands.specs.Pieces.{AllAhead, spans_of}
use Rattle.kr_pool_tests.proofs.tests.joining.pieces_of.Given as goal

abbrev pub invariant-loop-name : goal.invariant-loop-name
invariant-loop-name g l = AllAhead (spans_of l.pieces.items)
