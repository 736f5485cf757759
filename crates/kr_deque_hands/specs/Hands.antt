-- Between crates: hands, what they took and handed in, and the work that they share.
use Rattle.std.specs.Prelude.{◌≡◌, ◌⊎◌, ℕ, ◌+◌, ◌<◌, ◌≤◌, ◌==◌, List, [], ◌∷◌, ◌++◌, Bool, true, Option, Some, None, is_some, nat_lt, length, slice_get, if◌then◌else◌}
use Rattle.std.proofs.Common.{Global}
use Rattle.crossbeam_deque.specs.Handles.{Pass, view, IsPassOf, worker_deque, stealer_deque, worker_view}
use Rattle.crossbeam_deque.specs.declared.handles.Stealer.{Stealer}
use Rattle.kr_base.specs.declared.span.Span.{Span}
use Rattle.kr_base.specs.declared.entry.Entry.{Entry}
use Rattle.kr_survey.specs.declared.piece.Piece.{Piece}
use Rattle.kr_survey.specs.Spans.{covering}
use Rattle.kr_deque_hands.specs.Pieces.{spans_of, AllAhead, ArePiecesOf}
use Rattle.kr_deque_hands.specs.declared.task.Task.{Task}
use Rattle.kr_deque_hands.specs.declared.rule.Log.{Log}
use Rattle.kr_deque_hands.specs.declared.rule.View.{View}
use Rattle.kr_deque_hands.specs.declared.rule.InOrder.{InOrder}
use Rattle.kr_deque_hands.specs.declared.hand.Hand.{Hand}
use Rattle.kr_deque_hands.specs.declared.work.Work.{Work}

abbrev pub Theft : Type 0
Theft = Pass Task View Global

abbrev pub Front : Type 0
Front = Stealer Task Global View InOrder

-- what a hand knows of its own deque
abbrev pub own : {R : Type 0} → Hand R → Log
own h = (worker_view h.deque).log

-- what it stole: with no other hand, nothing, and it is the thief of its own deque
abbrev pub stolen_in : Option Theft → Log → List Span
stolen_in None v = v.stolen
stolen_in (Some p) v = (view p).log.stolen

abbrev pub stolen : {R : Type 0} → Hand R → List Span
stolen h = stolen_in h.next (own h)

-- what the hand took last of its own deque was the last that it had pushed there, so that nothing lies there
abbrev pub is_shut : {R : Type 0} → Hand R → Bool
is_shut h = (worker_view h.deque).marks.shut

-- Nothing lies on the hand's own deque; or the hand has used 3,000 marks, and makes sure no more.
abbrev pub IsSure : {R : Type 0} → Hand R → Type 0
IsSure h = (is_shut h ≡ true) ⊎ (3000 ≤ (worker_view h.deque).marks.pushed)

-- its worker came to its end, and was refused nothing
abbrev pub IsDone : {R : Type 0} → Hand R → Type 0
IsDone h = (h.refused ≡ None) × (is_shut h ≡ true)

abbrev pub AllDone : {R : Type 0} → List (Hand R) → Type 0
AllDone [] = Unit {0}
AllDone (h ∷ hs) = IsDone h × AllDone hs

-- of so many hands, the one after a hand: after the last comes hand 0
abbrev pub following : ℕ → ℕ → ℕ
following n k = if k + 1 == n then 0 else k + 1

-- the hand's own deque, and the one from which it steals, are the work's
pub record IsHandOf {R : Type 0} (work : Work) (h : Hand R) : Type 0 where
  pub below : h.number < length work.fronts.items
  pub owns : (s : Front) → slice_get work.fronts.items h.number ≡ Some s → stealer_deque s ≡ worker_deque h.deque
  pub steals : (s : Front) (p : Theft) → slice_get work.fronts.items (following (length work.fronts.items) h.number) ≡ Some s → h.next ≡ Some p → IsPassOf (stealer_deque s) p
  pub two : is_some h.next ≡ nat_lt 1 (length work.fronts.items)

-- all hands of the work, each at its place
pub record AreHandsOf {R : Type 0} (work : Work) (hands : List (Hand R)) : Type 0 where
  pub count : length hands ≡ length work.fronts.items
  pub each : (i : ℕ) (h : Hand R) → slice_get hands i ≡ Some h → (h.number ≡ i) × IsHandOf work h

-- how many of the spans that it took, and of those that it handed in as pieces, left, or pushed, have a key
abbrev pub taken_at : {R : Type 0} → List ℕ → Hand R → ℕ
taken_at key h = covering key (own h).popped + covering key (stolen h)

abbrev pub handed_at : {R : Type 0} → List ℕ → Hand R → ℕ
handed_at key h = covering key (spans_of h.pieces.items) + covering key h.left.items + covering key (own h).pushed

-- what the hand took since, and what it had in hand, it handed in, or has in hand
abbrev pub Carries : {R : Type 0} → Hand R → List Span → Hand R → List Span → Type 0
Carries old held new holds = (key : List ℕ) → handed_at key new + covering key holds + taken_at key old ≡ handed_at key old + covering key held + taken_at key new

-- all that the hand took it handed in, each key as often
abbrev pub IsSettled : {R : Type 0} → Hand R → Type 0
IsSettled h = (key : List ℕ) → handed_at key h ≡ taken_at key h

abbrev pub AllSettled : {R : Type 0} → List (Hand R) → Type 0
AllSettled [] = Unit {0}
AllSettled (h ∷ hs) = IsSettled h × AllSettled hs

-- how many of the spans that were given to these hands have a key
abbrev pub given_at : {R : Type 0} → List ℕ → List (Hand R) → ℕ
given_at key [] = 0
given_at key (h ∷ hs) = covering key (own h).given + given_at key hs

-- a hand that took and handed in nothing yet, and was refused nothing
pub record IsFresh {R : Type 0} (h : Hand R) : Type 0 where
  pub pushed : (own h).pushed ≡ []
  pub popped : (own h).popped ≡ []
  pub stolen_none : stolen h ≡ []
  pub pieces : h.pieces.items ≡ []
  pub left : h.left.items ≡ []
  pub unmarked : h.refused ≡ None

abbrev pub AllFresh : {R : Type 0} → List (Hand R) → Type 0
AllFresh [] = Unit {0}
AllFresh (h ∷ hs) = IsFresh h × AllFresh hs

-- each has 256 entries at most
abbrev pub AllFew : {R : Type 0} → List (Piece R) → Type 0
AllFew [] = Unit {0}
AllFew (p ∷ ps) = (p.tried ≤ 256) × AllFew ps

-- it is a hand of whatever work it was one of
abbrev pub Stays : {R : Type 0} → Hand R → Hand R → Type 0
Stays {R} old new = (work : Work) → IsHandOf work old → IsHandOf work new

-- what it found is the survey's, of spans that begin before they end, as those that it left
pub record IsSound {R : Type 0} (all : List (Entry R)) (h : Hand R) : Type 0 where
  pub honest : ArePiecesOf all h.pieces.items
  pub ahead : AllAhead (spans_of h.pieces.items)
  pub left_ahead : AllAhead h.left.items

abbrev pub AllSound : {R : Type 0} → List (Entry R) → List (Hand R) → Type 0
AllSound all [] = Unit {0}
AllSound all (h ∷ hs) = IsSound all h × AllSound all hs

-- the pieces that were added are the survey's, of 256 entries at most, and of spans that begin before they end
pub record Adds {R : Type 0} (all : List (Entry R)) (before after : List (Piece R)) : Type 0 where
  pub pieces : List (Piece R)
  pub added : after ≡ before ++ pieces
  pub honest : ArePiecesOf all pieces
  pub few : AllFew pieces
  pub ahead : AllAhead (spans_of pieces)

-- A turn of work: the hand stays one of the work's, what it was given stays, what it found is sound, and what it took it handed
-- in or has in hand.
pub record Works {R : Type 0} (all : List (Entry R)) (old : Hand R) (held : List Span) (new : Hand R) (holds : List Span) : Type 0 where
  pub stays : Stays old new
  pub same_number : new.number ≡ old.number
  pub given : (own new).given ≡ (own old).given
  pub adds : Adds all old.pieces.items new.pieces.items
  pub sound : IsSound all old → IsSound all new
  pub carries : Carries old held new holds

-- but for its deques the hand is as it was
pub record IsRestSame {R : Type 0} (old new : Hand R) : Type 0 where
  pub number : new.number ≡ old.number
  pub pieces : new.pieces.items ≡ old.pieces.items
  pub left : new.left.items ≡ old.left.items
  pub refused : new.refused ≡ old.refused
  pub given : (own new).given ≡ (own old).given
