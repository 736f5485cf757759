-- Between crates: hands that are made one after another, each of which steals from the next.
use Rattle.std.specs.Prelude.{◌≡◌, ℕ, ◌+◌, ◌≤◌, List, [], ◌∷◌, ◌++◌, Bool, true, false, Some, is_some, length, slice_get, map}
use Rattle.std.proofs.Common.{Vec, Global}
use Rattle.crossbeam_deque.specs.declared.handles.Worker.{Worker}
use Rattle.crossbeam_deque.specs.Handles.{view, IsPassOf, worker_deque, stealer_deque, worker_view, worker_flavor, worker_index, worker_capacity}
use Rattle.kr_base.specs.declared.span.Span.{Span}
use Rattle.kr_deque_hands.specs.Pieces.{AllAhead}
use Rattle.kr_deque_hands.specs.declared.task.Task.{Task}
use Rattle.kr_deque_hands.specs.declared.rule.View.{View}
use Rattle.kr_deque_hands.specs.declared.rule.InOrder.{InOrder}
use Rattle.kr_deque_hands.specs.declared.hand.Hand.{Hand}
use Rattle.kr_deque_hands.specs.declared.starting.Building.{Building}
use Rattle.kr_deque_hands.specs.Logs.{log, no_marks, view_of}
use Rattle.kr_deque_hands.specs.Hands.{Theft, Front, own, IsFresh}

abbrev pub Owner : Type 0
Owner = Worker Task Global View InOrder

-- a deque with room for 4,096 spans and 4,000 marks more, which holds the spans that it was given
pub record IsFilled (both : Bool) (given : List Span) (w : Owner) : Type 0 where
  pub fifo : worker_flavor w ≡ 0
  pub view_is : worker_view w ≡ view_of (log true both given [] [] []) no_marks
  pub room : worker_index w + 8096 ≤ worker_capacity w

-- each list of spans is one of spans that begin before they end
abbrev pub EachAhead : List (Vec Span Global) → Type 0
EachAhead [] = Unit {0}
EachAhead (v ∷ vs) = AllAhead v.items × EachAhead vs

abbrev pub givens : {R : Type 0} → List (Hand R) → List (List Span)
givens hs = map (λ h. (own h).given) hs

-- a hand that is made: of its deque and the one after it
pub record IsMade {R : Type 0} (fronts : List Front) (i : ℕ) (h : Hand R) : Type 0 where
  pub number : h.number ≡ i
  pub fresh : IsFresh h
  pub thief : is_some h.next ≡ true
  pub owns : (s : Front) → slice_get fronts i ≡ Some s → stealer_deque s ≡ worker_deque h.deque
  pub steals : (s : Front) (p : Theft) → slice_get fronts (i + 1) ≡ Some s → h.next ≡ Some p → IsPassOf (stealer_deque s) p

-- Hands that were made, a deque that waits for its way to the one after it, and the way to the first one.
pub record IsBuilt {R : Type 0} (lists : List (List Span)) (b : Building R) : Type 0 where
  pub count : length b.fronts.items ≡ length b.hands.items + 1
  pub each : (i : ℕ) (h : Hand R) → slice_get b.hands.items i ≡ Some h → IsMade b.fronts.items i h
  pub given : List Span
  pub lists_are : givens b.hands.items ++ given ∷ [] ≡ lists
  pub filled : IsFilled false given b.last
  pub last_owns : (s : Front) → slice_get b.fronts.items (length b.hands.items) ≡ Some s → stealer_deque s ≡ worker_deque b.last
  pub first_is : (s : Front) → slice_get b.fronts.items 0 ≡ Some s → IsPassOf (stealer_deque s) b.first
  pub first_view : view b.first ≡ view_of (log false true [] [] [] []) no_marks
