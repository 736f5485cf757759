-- Hands after all workers are done.
use Rattle.std.proofs.Common.{take, drop, Vec, Global, ◌≡◌, ℕ, zero, suc, ◌<◌, List, [], ◌∷◌, ◌++◌, Option, Some, None, length, refl, sym, ap, ◌∙◌, subst, arith}
use Rattle.std.specs.Prelude.{slice_get, slice_index_or, All}
use Rattle.std.proofs.lemmas.Option.{slice_get-get_or, slice_get_within, get_or_from_slice_get}
use Rattle.kr_base.specs.declared.span.Span.{Span}
use Rattle.kr_base.specs.declared.entry.Entry.{Entry}
use Rattle.kr_survey.specs.Joins.{joined, lists}
use Rattle.kr_survey.specs.declared.piece.Piece.{Piece}
use Rattle.kr_survey.specs.Spans.{covering}
use Rattle.kr_deque_hands.specs.Pieces.{spans_of, AllAhead, ArePiecesOf}
use Rattle.kr_deque_hands.specs.declared.hand.Hand.{Hand}
use Rattle.kr_deque_hands.specs.declared.work.Work.{Work}
use Rattle.kr_deque_hands.specs.Hands.{own, IsHandOf, AreHandsOf, IsSettled, AllSettled, IsSound, AllSound, given_at, Works, IsFresh, AllFresh}
use Rattle.kr_deque_hands.specs.Building.{givens, EachAhead}
use Rattle.kr_deque.specs.Found.{AllWorked}
use Rattle.kr_deque_hands.proofs.Carrying.{covering_append, ahead_append}

-- what was lent as a slice and comes back
written : {A : Type 0} (xs ys : List A) → length ys ≡ length xs → take (length xs) (ys ++ drop (length ys) xs) ≡ ys
written [] [] n = refl
written [] (y ∷ ys) n = absurd (omega (arith, n))
written (x ∷ xs) [] n = absurd (omega (arith, n))
written (x ∷ xs) (y ∷ ys) n = ap (λ l. y ∷ l) (written xs ys (omega (arith, n)))

pub each_joined : (vs : List (Vec Span Global)) → EachAhead vs → AllAhead (joined (lists vs))
each_joined [] h = tt
each_joined (v ∷ vs) h = ahead_append v.items (joined (lists vs)) h.0 (each_joined vs h.1)

module _ {R : Type 0} where
  some_hand : (hs : List (Hand R)) (i : ℕ) → i < length hs → (h : Hand R) × (slice_get hs i ≡ Some h)
  some_hand [] i h = absurd (omega arith)
  some_hand (x ∷ xs) zero h = (x, refl)
  some_hand (x ∷ xs) (suc i) h = some_hand xs i (omega (arith, h))

  pub all_mine : (work : Work) (hs : List (Hand R)) → AreHandsOf work hs → All (λ (h : Hand R). IsHandOf work h) hs
  all_mine work hs a k d lt = (a.each k (slice_index_or hs k d) (slice_get-get_or hs k d lt)).1

  settled_fresh : (h : Hand R) → IsFresh h → IsSettled h
  settled_fresh h f key =
      let a = ap (λ (ps : List (Piece R)). covering key (spans_of ps)) f.pieces in
      let b = ap (λ (l : List Span). covering key l) f.left in
      let d = ap (λ (l : List Span). covering key l) f.pushed in
      let e = ap (λ (l : List Span). covering key l) f.popped in
      let g = ap (λ (l : List Span). covering key l) f.stolen_none in
      omega (arith, a, b, d, e, g)

  sound_fresh : (all : List (Entry R)) (h : Hand R) → IsFresh h → IsSound all h
  sound_fresh all h f = record {
    honest = subst (λ (ps : List (Piece R)). ArePiecesOf all ps) (sym f.pieces) tt;
    ahead = subst (λ (ps : List (Piece R)). AllAhead (spans_of ps)) (sym f.pieces) tt;
    left_ahead = subst AllAhead (sym f.left) tt;
  }

  fresh_at : (hs : List (Hand R)) (i : ℕ) (h : Hand R) → AllFresh hs → slice_get hs i ≡ Some h → IsFresh h
  fresh_at [] i h f e = absurd (cc (e))
  fresh_at (x ∷ xs) zero h f e = subst (λ (y : Hand R). IsFresh y) (ap (held x) e) f.0
    where
      held : Hand R → Option (Hand R) → Hand R
      held d None = d
      held d (Some z) = z
  fresh_at (x ∷ xs) (suc i) h f e = fresh_at xs i h f.1 e

  module _ (all : List (Entry R)) where
    -- of the worked hands, what holds of each
    each_new : (P : Hand R → Type 0) (olds news : List (Hand R)) → length news ≡ length olds
        → ((i : ℕ) (h k : Hand R) → slice_get olds i ≡ Some h → slice_get news i ≡ Some k → P k) → (i : ℕ) (k : Hand R) → slice_get news i ≡ Some k → P k
    each_new P olds news n f i k e =
        let w = slice_get_within news i k e in
        let h = some_hand olds i (omega (arith, w, n)) in
        f i h.0 k h.1 e

    -- by place, as a call for each hand says it
    pub worked_each : (olds news : List (Hand R)) → length news ≡ length olds → ((i : ℕ) (d : Hand R) → i < length olds → Works all (slice_index_or olds i d) [] (slice_index_or news i d) []) → AllWorked all olds news
    worked_each olds news n f = record {
      count = n;
      each = λ i h k e e'.
          let a = get_or_from_slice_get olds i h h e in
          let b = get_or_from_slice_get news i k h e' in
          subst (λ (x : Hand R × Hand R). Works all x.0 [] x.1 []) (λ j. (a j, b j)) (f i h (slice_get_within olds i h e));
    }

    pub hands_worked : (work : Work) (olds news : List (Hand R)) → AreHandsOf work olds → AllWorked all olds news → AreHandsOf work news
    hands_worked work olds news a w =
        let n = w.count in
        record {
          count = let m = a.count in omega (arith, n, m);
          each = λ i k e.
              let lt = slice_get_within news i k e in
              let h = some_hand olds i (omega (arith, lt, n)) in
              let x = a.each i h.0 h.1 in
              ((w.each i h.0 k h.1 e).same_number ∙ x.0, (w.each i h.0 k h.1 e).stays work x.1);
        }

    settled_all : (hs : List (Hand R)) → ((i : ℕ) (h : Hand R) → slice_get hs i ≡ Some h → IsSettled h) → AllSettled hs
    settled_all [] f = tt
    settled_all (h ∷ hs) f = (f 0 h refl, settled_all hs (λ i x e. f (suc i) x e))

    sound_all : (hs : List (Hand R)) → ((i : ℕ) (h : Hand R) → slice_get hs i ≡ Some h → IsSound all h) → AllSound all hs
    sound_all [] f = tt
    sound_all (h ∷ hs) f = (f 0 h refl, sound_all hs (λ i x e. f (suc i) x e))

    pub settled_worked : (olds news : List (Hand R)) → AllFresh olds → AllWorked all olds news → AllSettled news
    settled_worked olds news f w =
        settled_all news (each_new IsSettled olds news w.count (λ i h k e e' key.
        let s = settled_fresh h (fresh_at olds i h f e) key in
        let c = (w.each i h k e e').carries key in
        omega (arith, s, c)))

    pub sound_worked : (olds news : List (Hand R)) → AllFresh olds → AllWorked all olds news → AllSound all news
    sound_worked olds news f w = sound_all news (each_new (IsSound all) olds news w.count (λ i h k e e'. (w.each i h k e e').sound (sound_fresh all h (fresh_at olds i h f e))))

    given_same : (key : List ℕ) (olds news : List (Hand R)) → length news ≡ length olds → ((i : ℕ) (h k : Hand R) → slice_get olds i ≡ Some h → slice_get news i ≡ Some k → (own k).given ≡ (own h).given)
        → given_at key news ≡ given_at key olds
    given_same key [] [] n f = refl
    given_same key [] (y ∷ ys) n f = absurd (omega (arith, n))
    given_same key (x ∷ xs) [] n f = absurd (omega (arith, n))
    given_same key (x ∷ xs) (y ∷ ys) n f =
        let a = ap (λ (l : List Span). covering key l) (f 0 x y refl refl) in
        let b = given_same key xs ys (omega (arith, n)) (λ i h k e e'. f (suc i) h k e e') in
        omega (arith, a, b)

    pub given_worked : (key : List ℕ) (olds news : List (Hand R)) → AllWorked all olds news → given_at key news ≡ given_at key olds
    given_worked key olds news w = given_same key olds news w.count (λ i h k e e'. (w.each i h k e e').given)

    -- the same of the vector whose hands were lent
    module _ (work : Work) (hands : Vec (Hand R) Global) (slice news : List (Hand R)) (mine : AreHandsOf work hands.items) (fresh : AllFresh hands.items) (same : slice ≡ hands.items)
        (w : AllWorked all slice news) where
      back : take hands.len (news ++ drop (length news) hands.items) ≡ news
      back =
          let n = w.count in
          let m = ap (λ (l : List (Hand R)). length l) same in
          let o : hands.len ≡ length hands.items = hands.ok.0 in
          ap (λ (k : ℕ). take k (news ++ drop (length news) hands.items)) o ∙ written hands.items news (omega (arith, n, m))

      worked : AllWorked all hands.items news
      worked = subst (λ (l : List (Hand R)). AllWorked all l news) same w

      pub later_hands : AreHandsOf work (take hands.len (news ++ drop (length news) hands.items))
      later_hands = subst (λ (l : List (Hand R)). AreHandsOf work l) (sym back) (hands_worked work hands.items news mine worked)

      pub later_settled : AllSettled (take hands.len (news ++ drop (length news) hands.items))
      later_settled = subst (λ (l : List (Hand R)). AllSettled l) (sym back) (settled_worked hands.items news fresh worked)

      pub later_sound : AllSound all (take hands.len (news ++ drop (length news) hands.items))
      later_sound = subst (λ (l : List (Hand R)). AllSound all l) (sym back) (sound_worked hands.items news fresh worked)

      pub later_given : (key : List ℕ) → given_at key (take hands.len (news ++ drop (length news) hands.items)) ≡ given_at key hands.items
      later_given key = ap (λ (l : List (Hand R)). given_at key l) back ∙ given_worked key hands.items news worked

  given_joined : (key : List ℕ) (hs : List (Hand R)) → given_at key hs ≡ covering key (joined (givens hs))
  given_joined key [] = refl
  given_joined key (h ∷ hs) = let a = covering_append key (own h).given (joined (givens hs)) in omega (arith, a, given_joined key hs)

  -- what was given to hands is what their lists hold
  pub given_lists : (key : List ℕ) (hs : List (Hand R)) (ls : List (List Span)) → givens hs ≡ ls → given_at key hs ≡ covering key (joined ls)
  given_lists key hs ls e = given_joined key hs ∙ ap (λ (l : List (List Span)). covering key (joined l)) e
