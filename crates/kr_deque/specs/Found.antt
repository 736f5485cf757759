-- Between crates: what workers found, and what the caller finds in what they left.
use Rattle.std.specs.Prelude.{◌≡◌, ℕ, ◌+◌, List, [], Some, length, slice_get}
use Rattle.kr_base.specs.declared.span.Span.{Span}
use Rattle.kr_base.specs.declared.entry.Entry.{Entry}
use Rattle.kr_survey.specs.declared.piece.Piece.{Piece}
use Rattle.kr_survey.specs.Spans.{covering}
use Rattle.kr_deque_hands.specs.Pieces.{spans_of, AllAhead, ArePiecesOf}
use Rattle.kr_deque_hands.specs.declared.hand.Hand.{Hand}
use Rattle.kr_deque_hands.specs.Hands.{Works}

-- each hand did a worker's turns
pub record AllWorked {R : Type 0} (all : List (Entry R)) (olds news : List (Hand R)) : Type 0 where
  pub count : length news ≡ length olds
  pub each : (i : ℕ) (h k : Hand R) → slice_get olds i ≡ Some h → slice_get news i ≡ Some k → Works all h [] k []

-- pieces were added that are the survey's, and cover what these spans cover
pub record IsFound {R : Type 0} (all : List (Entry R)) (before : List (Piece R)) (spans : List Span) (after : List (Piece R)) : Type 0 where
  pub ahead : AllAhead (spans_of before) → AllAhead (spans_of after)
  pub honest : ArePiecesOf all before → ArePiecesOf all after
  pub cover : (key : List ℕ) → covering key (spans_of after) ≡ covering key (spans_of before) + covering key spans
