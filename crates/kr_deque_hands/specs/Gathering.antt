-- Between crates: what hands found and left, gathered from the back.
use Rattle.std.specs.Prelude.{◌≡◌, ℕ, ◌+◌, ◌≤◌, List, [], ◌∷◌, ◌++◌, Bool, true, Option, Some, length, slice_get}
use Rattle.kr_base.specs.declared.span.Span.{Span}
use Rattle.kr_base.specs.declared.entry.Entry.{Entry}
use Rattle.kr_survey.specs.declared.piece.Piece.{Piece}
use Rattle.kr_survey.specs.Spans.{how_many, covering}
use Rattle.kr_deque_hands.specs.Pieces.{spans_of, AllAhead, ArePiecesOf}
use Rattle.kr_deque_hands.specs.declared.rule.Log.{Log}
use Rattle.kr_deque_hands.specs.declared.rule.View.{View}
use Rattle.kr_deque_hands.specs.declared.hand.Hand.{Hand}
use Rattle.kr_deque_hands.specs.declared.gathering.Gathered.{Gathered}
use Rattle.kr_deque_hands.specs.Logs.{IsRest}
use Rattle.kr_deque_hands.specs.Hands.{Theft, own, stolen, following, given_at, AllSettled, AllSound, AllDone, Works}
use Rattle.kr_deque_hands.specs.Building.{Owner}

-- All that a deque held was added: the rest after what the owner and the thief took, each span as often. What came is what the
-- owner took, what the thief stole, and that. Of a deque that is shut nothing was added.
pub record Drains (v : View) (stolen before after : List Span) : Type 0 where
  pub rest : List Span
  pub ahead : AllAhead rest
  pub added : after ≡ before ++ rest
  pub all : (p : Span → Bool) → how_many p v.log.given + how_many p v.log.pushed ≡ how_many p v.log.popped + how_many p stolen + how_many p rest
  pub held : List Span
  pub is_rest : IsRest (v.log.given ++ v.log.pushed) v.log.popped stolen held
  pub same : (p : Span → Bool) → how_many p rest ≡ how_many p held
  pub none : v.marks.shut ≡ true → rest ≡ []

-- What an owner and a thief took of a deque is a front of what came to it, each span once, in the order in which it came, and the
-- rest is among those left, each as often.
pub record IsShared (v : Log) (stolen left : List Span) : Type 0 where
  pub held : List Span
  pub is_rest : IsRest (v.given ++ v.pushed) v.popped stolen held
  pub are_left : (p : Span → Bool) → how_many p held ≤ how_many p left

-- what a hand found was added, and its deque comes back
pub record TakesIn {R : Type 0} (hand : Hand R) (old new : Gathered R) (deque : Owner) (next : Option Theft) : Type 0 where
  pub pieces : new.pieces.items ≡ old.pieces.items ++ hand.pieces.items
  pub left : new.left.items ≡ old.left.items ++ hand.left.items
  pub deque_is : deque ≡ hand.deque
  pub next_is : next ≡ hand.next

-- how many of the pieces and of the spans left have a key
abbrev pub found_at : {R : Type 0} → List ℕ → Gathered R → ℕ
found_at key g = covering key (spans_of g.pieces.items) + covering key g.left.items

-- the pieces of these hands, the last hand's first
abbrev pub pieces_in : {R : Type 0} → List (Hand R) → List (Piece R)
pieces_in [] = []
pieces_in (h ∷ hs) = pieces_in hs ++ h.pieces.items

-- how many of the spans that came to these hands' deques, or that the hands left, pass a test; and how many of those taken
abbrev pub came_of : {R : Type 0} → (Span → Bool) → List (Hand R) → ℕ
came_of p [] = 0
came_of p (h ∷ hs) = how_many p (own h).given + how_many p (own h).pushed + how_many p h.left.items + came_of p hs

abbrev pub taken_of : {R : Type 0} → (Span → Bool) → List (Hand R) → ℕ
taken_of p [] = 0
taken_of p (h ∷ hs) = how_many p (own h).popped + how_many p (stolen h) + taken_of p hs

-- pieces of the survey, of spans that begin before they end, as those left
pub record IsSoundlyFound {R : Type 0} (all : List (Entry R)) (g : Gathered R) : Type 0 where
  pub honest : ArePiecesOf all g.pieces.items
  pub ahead : AllAhead (spans_of g.pieces.items)
  pub left_ahead : AllAhead g.left.items

-- What all hands found was added, and what their deques held.
pub record IsCollected {R : Type 0} (hands : List (Hand R)) (old new : Gathered R) : Type 0 where
  pub pieces : new.pieces.items ≡ old.pieces.items ++ pieces_in hands
  pub lefts : (p : Span → Bool) → how_many p new.left.items + taken_of p hands ≡ how_many p old.left.items + came_of p hands
  pub balance : AllSettled hands → (key : List ℕ) → found_at key new ≡ found_at key old + given_at key hands
  pub shared : (i : ℕ) (h k : Hand R) → slice_get hands i ≡ Some h → slice_get hands (following (length hands) i) ≡ Some k → IsShared (own k) (stolen h) new.left.items
  pub sound : (all : List (Entry R)) → AllSound all hands → IsSoundlyFound all old → IsSoundlyFound all new
  pub none : AllDone hands → new.left.items ≡ old.left.items

abbrev pub last_of : {R : Type 0} → Hand R → List (Hand R) → Hand R
last_of h [] = h
last_of h (d ∷ ds) = last_of d ds

-- The hands after one are taken in, and its own finds; its deque is open, and the way to the first one is kept.
pub record IsOpen {R : Type 0} (hands rest : List (Hand R)) (old new : Gathered R) (deque : Owner) (first : Option Theft) : Type 0 where
  pub open_hand : Hand R
  pub done : List (Hand R)
  pub split : hands ≡ rest ++ open_hand ∷ done
  pub deque_is : deque ≡ open_hand.deque
  pub first_is : first ≡ (last_of open_hand done).next
  pub pieces : new.pieces.items ≡ old.pieces.items ++ pieces_in (open_hand ∷ done)
  pub lefts : (p : Span → Bool) → how_many p new.left.items + taken_of p (open_hand ∷ done) + how_many p (own open_hand).given + how_many p (own open_hand).pushed
      ≡ how_many p old.left.items + came_of p (open_hand ∷ done) + how_many p (own open_hand).popped + how_many p (stolen (last_of open_hand done))
  pub balance : AllSettled hands → (key : List ℕ) → found_at key new + covering key (own open_hand).pushed + covering key (own open_hand).given + given_at key rest
      ≡ found_at key old + covering key (own open_hand).popped + covering key (stolen (last_of open_hand done)) + given_at key hands
  pub shared : (i : ℕ) (h k : Hand R) → length rest ≤ i → slice_get hands i ≡ Some h → slice_get hands (i + 1) ≡ Some k → IsShared (own k) (stolen h) new.left.items
  pub sound : (all : List (Entry R)) → AllSound all hands → IsSoundlyFound all old → IsSoundlyFound all new
  pub none : AllDone hands → new.left.items ≡ old.left.items
