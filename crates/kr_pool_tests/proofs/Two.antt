-- Two hands, taken from the back.
use Rattle.std.proofs.Common.{Vec, Global, ◌≡◌, ℕ, zero, suc, ◌+◌, ◌<◌, List, [], ◌∷◌, ◌++◌, true, Some, length, refl, ap, ◌∙◌, arith, length-append}
use Rattle.std.specs.Prelude.{slice_get, nat_lt, Result, Ok, Err, IfOk}
use Rattle.std.proofs.lemmas.Bool.Decides.{nat_tests}
use Rattle.kr_base.specs.declared.span.Span.{Span}
use Rattle.kr_survey.specs.Joins.{lists}
use Rattle.kr_deque_hands.specs.Building.{givens}
use Rattle.kr_deque_hands.specs.declared.hand.Hand.{Hand}
use Rattle.kr_deque_hands.specs.declared.work.Work.{Work}
use Rattle.kr_deque_hands.specs.Hands.{IsHandOf, AreHandsOf}
use Rattle.kr_deque_hands.proofs.Made.{length_lists}

get_here : {A : Type 0} (xs ys : List A) (y : A) → slice_get (xs ++ y ∷ ys) (length xs) ≡ Some y
get_here [] ys y = refl
get_here (x ∷ xs) ys y = get_here xs ys y

get_front : {A : Type 0} (xs ys : List A) (z : A) (i : ℕ) → i < length xs → slice_get (xs ++ ys) i ≡ slice_get xs i
get_front [] ys z i h = absurd (omega arith)
get_front (x ∷ xs) ys z zero h = refl
get_front (x ∷ xs) ys z (suc i) h = get_front xs ys z i (omega (arith, h))

pub last_hand : {R : Type 0} (work : Work) (hs one : List (Hand R)) (x : Hand R) → AreHandsOf work hs → hs ≡ one ++ x ∷ [] → IsHandOf work x
last_hand {R} work hs one x mine e = (mine.each (length one) x (ap (λ (l : List (Hand R)). slice_get l (length one)) e ∙ get_here one [] x)).1

pub first_hand : {R : Type 0} (work : Work) (hs one two : List (Hand R)) (x y : Hand R) → AreHandsOf work hs → hs ≡ one ++ x ∷ [] → one ≡ two ++ y ∷ [] → IsHandOf work y
first_hand {R} work hs one two x y mine e f =
    let n = ap (λ (l : List (Hand R)). length l) f in
    let m = length-append two (y ∷ []) in
    let here = ap (λ (l : List (Hand R)). slice_get l (length two)) f ∙ get_here two [] y in
    (mine.each (length two) y (ap (λ (l : List (Hand R)). slice_get l (length two)) e ∙ (get_front one (x ∷ []) x (length two) (omega (arith, n, m)) ∙ here))).1

pub two_is : {R : Type 0} (work : Work) (hs : List (Hand R)) → AreHandsOf work hs → length hs ≡ 2 → nat_lt 1 (length work.fronts.items) ≡ true
two_is work hs a n = let c = a.count in grind (arith, nat_tests)

length_givens : {R : Type 0} (hs : List (Hand R)) → length (givens hs) ≡ length hs
length_givens [] = refl
length_givens (h ∷ hs) = ap suc (length_givens hs)

-- as many hands as lists
pub two_made : {R E : Type 0} (r : Result (Work × Vec (Hand R) Global) E) (vs : List (Vec Span Global)) → length vs ≡ 2 → IfOk r (λ x. givens x.1.items ≡ lists vs) → IfOk r (λ x. length x.1.items ≡ 2)
two_made (Ok x) vs n g = let a = ap (λ (l : List (List Span)). length l) g in omega (arith, a, n, length_lists vs, length_givens x.1.items)
two_made (Err e) vs n g = tt
