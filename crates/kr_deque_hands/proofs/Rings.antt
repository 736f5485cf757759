-- Hands gathered from the back, each with the way to the next one's deque.
use Rattle.std.proofs.Common.{◌≡◌, ◌⊎◌, inl, inr, ℕ, zero, suc, ◌+◌, ◌<◌, ◌≤◌, List, [], ◌∷◌, ◌++◌, Bool, true, false, Option, Some, None, length, refl, sym, ap, ◌∙◌, subst, arith, append_assoc, length-append, Vec, Global}
use Rattle.std.specs.Vec.{vec_len}
use Rattle.std.specs.Prelude.{is_some, nat_lt, slice_get, MatchOption, if◌then◌else◌, ◌==◌}
use Rattle.std.proofs.lemmas.List.{map-append, append-nil}
use Rattle.std.proofs.lemmas.Option.{slice_get_within}
use Rattle.std.proofs.lemmas.Bool.Decides.{nat_tests}
use Rattle.crossbeam_deque.specs.Handles.{view, IsPassOf, worker_deque, worker_view}
use Rattle.kr_base.specs.declared.span.Span.{Span}
use Rattle.kr_base.specs.declared.entry.Entry.{Entry}
use Rattle.kr_survey.specs.declared.piece.Piece.{Piece}
use Rattle.kr_survey.specs.Spans.{how_many, has_key, covering}
use Rattle.kr_deque_hands.specs.Pieces.{spans_of, AllAhead, ArePiecesOf}
use Rattle.kr_deque_hands.specs.declared.rule.Log.{Log}
use Rattle.kr_deque_hands.specs.declared.rule.View.{View}
use Rattle.kr_deque_hands.specs.declared.hand.Hand.{Hand}
use Rattle.kr_deque_hands.specs.declared.work.Work.{Work}
use Rattle.kr_deque_hands.specs.declared.gathering.Gathered.{Gathered}
use Rattle.kr_deque_hands.specs.Hands.{Theft, Front, own, stolen, stolen_in, following, AreHandsOf, IsSettled, AllSettled, IsSound, AllSound, IsDone, AllDone, given_at}
use Rattle.kr_deque_hands.specs.Building.{Owner}
use Rattle.kr_deque_hands.specs.Gathering.{Drains, IsShared, TakesIn, found_at, pieces_in, came_of, taken_of, IsSoundlyFound, IsCollected, last_of, IsOpen}
use Rattle.kr_deque_hands.proofs.Covers.{counted_append}
use Rattle.std.proofs.lemmas.Bool.{ltb-true}
use Rattle.kr_deque_hands.proofs.Carrying.{ahead_append, covering_append}

some_front : (fronts : List Front) (i : ℕ) → i < length fronts → (s : Front) × (slice_get fronts i ≡ Some s)
some_front [] i h = absurd (omega arith)
some_front (f ∷ fs) zero h = (f, refl)
some_front (f ∷ fs) (suc i) h = some_front fs i (omega (arith, h))

pub follows : (n k : ℕ) → k + 1 < n → following n k ≡ k + 1
follows n k h = let e : (k + 1 == n) ≡ false = grind (arith, nat_tests) in ap (λ (b : Bool). if b then 0 else k + 1) e

pub begins_again : (n k : ℕ) → k + 1 ≡ n → following n k ≡ 0
begins_again n k h = let e : (k + 1 == n) ≡ true = grind (arith, nat_tests) in ap (λ (b : Bool). if b then 0 else k + 1) e

pub two_is : (n : ℕ) → 1 < n → nat_lt 1 n ≡ true
two_is n h = grind (arith, nat_tests)

pub one_is : (n : ℕ) → n ≤ 1 → nat_lt 1 n ≡ false
one_is n h = grind (arith, nat_tests)

le-false : (n m : ℕ) → nat_lt n m ≡ false → m ≤ n
le-false n m h = grind (arith, nat_tests)

cases_le : (m n : ℕ) → (m ≤ n) ⊎ (n < m)
cases_le m n = elim (nat_lt n m) as (λ b. nat_lt n m ≡ b → (m ≤ n) ⊎ (n < m)) [ true ↦ λ e. inr (ltb-true n m e) | false ↦ λ e. inl (le-false n m e) ] refl

some-none : (o : Option Theft) → is_some o ≡ true → o ≡ None → ⊥
some-none o h e = cc (sym h ∙ ap (λ (x : Option Theft). is_some x) e)

-- what a drained deque says, with more left
shared_more : (v w : Log) (st su left more : List Span) → w ≡ v → su ≡ st → ((p : Span → Bool) → how_many p left ≤ how_many p more) → IsShared v st left → IsShared w su more
shared_more v w st su left more e f n s =
    subst (λ (x : Log × List Span). IsShared x.0 x.1 more) (λ i. (sym e i, sym f i)) (record { held = s.held; is_rest = s.is_rest; are_left = λ p. let a = s.are_left p in let b = n p in omega (arith, a, b) })

shared_drained : (v : View) (st before after : List Span) → Drains v st before after → IsShared v.log st after
shared_drained v st before after d = record {
  held = d.held;
  is_rest = d.is_rest;
  are_left = λ p. let a = ap (λ (l : List Span). how_many p l) d.added ∙ counted_append p before d.rest in let b = d.same p in omega (arith, a, b);
}

more_left : (p : Span → Bool) (before after rest : List Span) → after ≡ before ++ rest → how_many p before ≤ how_many p after
more_left p before after rest e = let a = ap (λ (l : List Span). how_many p l) e ∙ counted_append p before rest in omega (arith, a)

empty_is : {A : Type 0} (xs : List A) → length xs ≡ 0 → xs ≡ []
empty_is [] n = refl
empty_is (x ∷ xs) n = absurd (omega (arith, n))

added_none : {A : Type 0} (before after rest : List A) → after ≡ before ++ rest → rest ≡ [] → after ≡ before
added_none before after rest e z = e ∙ (ap (λ l. before ++ l) z ∙ append-nil before)

-- what close asks, of a deque and a way that are those
pub closes_as : (next way : Option Theft) (w d : Owner) → next ≡ way → w ≡ d → MatchOption way ((worker_view d).log.thief ≡ true) (λ p. IsPassOf (worker_deque d) p × ((view p).log.thief ≡ true))
    → MatchOption next ((worker_view w).log.thief ≡ true) (λ p. IsPassOf (worker_deque w) p × ((view p).log.thief ≡ true))
closes_as next way w d e f m =
    subst (λ (x : Option Theft × Owner). MatchOption x.0 ((worker_view x.1).log.thief ≡ true) (λ p. IsPassOf (worker_deque x.1) p × ((view p).log.thief ≡ true))) (λ i. (sym e i, sym f i)) m

module _ {R : Type 0} where
  done_at : (xs : List (Hand R)) (y : Hand R) (ys : List (Hand R)) → AllDone (xs ++ y ∷ ys) → IsDone y
  done_at [] y ys h = h.0
  done_at (x ∷ xs) y ys h = done_at xs y ys h.1

  -- a hand that is done keeps nothing
  kept_none : (h : Hand R) → IsDone h → h.left.items ≡ []
  kept_none h d = empty_is h.left.items (h.none d.0)

  get_middle : (xs : List (Hand R)) (y : Hand R) (ys : List (Hand R)) → slice_get (xs ++ y ∷ ys) (length xs) ≡ Some y
  get_middle [] y ys = refl
  get_middle (x ∷ xs) y ys = get_middle xs y ys

  get_last : (h : Hand R) (ds : List (Hand R)) → slice_get (h ∷ ds) (length ds) ≡ Some (last_of h ds)
  get_last h [] = refl
  get_last h (d ∷ ds) = get_last d ds

  settled_at : (xs : List (Hand R)) (y : Hand R) (ys : List (Hand R)) → AllSettled (xs ++ y ∷ ys) → IsSettled y
  settled_at [] y ys h = h.0
  settled_at (x ∷ xs) y ys h = settled_at xs y ys h.1

  sound_at : (all : List (Entry R)) (xs : List (Hand R)) (y : Hand R) (ys : List (Hand R)) → AllSound all (xs ++ y ∷ ys) → IsSound all y
  sound_at all [] y ys h = h.0
  sound_at all (x ∷ xs) y ys h = sound_at all xs y ys h.1

  given_append : (key : List ℕ) (xs ys : List (Hand R)) → given_at key (xs ++ ys) ≡ given_at key xs + given_at key ys
  given_append key [] ys = omega arith
  given_append key (x ∷ xs) ys = omega (arith, given_append key xs ys)

  honest_append : (all : List (Entry R)) (ps qs : List (Piece R)) → ArePiecesOf all ps → ArePiecesOf all qs → ArePiecesOf all (ps ++ qs)
  honest_append all [] qs h k = k
  honest_append all (p ∷ ps) qs h k = (h.0, honest_append all ps qs h.1 k)

  -- the way of a hand goes to the deque of the one that follows it
  way : (work : Work) (hands : List (Hand R)) (i j : ℕ) (h k : Hand R) (p : Theft) → AreHandsOf work hands → slice_get hands i ≡ Some h → slice_get hands j ≡ Some k → following (length hands) i ≡ j → h.next ≡ Some p
      → IsPassOf (worker_deque k.deque) p
  way work hands i j h k p a at at' f e =
      let x = a.each i h at in
      let y = a.each j k at' in
      let s = some_front work.fronts.items j (subst (λ (m : ℕ). m < length work.fronts.items) y.0 y.1.below) in
      let there : slice_get work.fronts.items (following (length work.fronts.items) h.number) ≡ Some s.0 =
      subst (λ (m : ℕ). slice_get work.fronts.items m ≡ Some s.0) (sym (ap (λ (m : ℕ). following m h.number) (sym a.count) ∙ (ap (λ (m : ℕ). following (length hands) m) x.0 ∙ f))) s.1 in
      let own_at : slice_get work.fronts.items k.number ≡ Some s.0 = subst (λ (m : ℕ). slice_get work.fronts.items m ≡ Some s.0) (sym y.0) s.1 in
      subst (λ d. IsPassOf d p) (y.1.owns s.0 own_at) (x.1.steals s.0 p there e)

  -- what close asks of a hand's way to the deque that follows it
  pub closes : (work : Work) (hands : List (Hand R)) (i j : ℕ) (h k : Hand R) → AreHandsOf work hands → slice_get hands i ≡ Some h → slice_get hands j ≡ Some k → following (length hands) i ≡ j
      → (1 < length hands) ⊎ (h ≡ k) → MatchOption h.next ((worker_view k.deque).log.thief ≡ true) (λ p. IsPassOf (worker_deque k.deque) p × ((view p).log.thief ≡ true))
  closes work hands i j h k a at at' f more = go h.next refl
    where
      go : (o : Option Theft) → h.next ≡ o → MatchOption o ((worker_view k.deque).log.thief ≡ true) (λ p. IsPassOf (worker_deque k.deque) p × ((view p).log.thief ≡ true))
      go None e = elim more [
        | inl m ↦ absurd (some-none h.next ((a.each i h at).1.two ∙ two_is (length work.fronts.items) (omega (arith, m, a.count))) e)
        | inr s ↦ subst (λ (x : Hand R). (worker_view x.deque).log.thief ≡ true) s (h.alone e)
      ]
      go (Some p) e = (way work hands i j h k p a at at' f e, h.thief p e)

  -- what it stole is what the joined pass says
  pub stolen_way : (work : Work) (hands : List (Hand R)) (i : ℕ) (h k : Hand R) → AreHandsOf work hands → slice_get hands i ≡ Some h → (1 < length hands) ⊎ (h ≡ k) → stolen_in h.next (own k) ≡ stolen h
  stolen_way work hands i h k a at more = go h.next refl
    where
      go : (o : Option Theft) → h.next ≡ o → stolen_in o (own k) ≡ stolen_in o (own h)
      go None e = elim more [
        | inl m ↦ absurd (some-none h.next ((a.each i h at).1.two ∙ two_is (length work.fronts.items) (omega (arith, m, a.count))) e)
        | inr s ↦ ap (λ (x : Hand R). (own x).stolen) (sym s)
      ]
      go (Some p) e = refl

  sound_taken : (all : List (Entry R)) (h : Hand R) (old new : Gathered R) (deque : Owner) (next : Option Theft) → TakesIn h old new deque next → IsSound all h → IsSoundlyFound all old → IsSoundlyFound all new
  sound_taken all h old new deque next t s f = record {
    honest = subst (λ (ps : List (Piece R)). ArePiecesOf all ps) (sym t.pieces) (honest_append all old.pieces.items h.pieces.items f.honest s.honest);
    ahead = subst (λ (ps : List (Piece R)). AllAhead (spans_of ps)) (sym t.pieces)
        (subst AllAhead (sym (map-append (λ (p : Piece R). p.span) old.pieces.items h.pieces.items)) (ahead_append (spans_of old.pieces.items) (spans_of h.pieces.items) f.ahead s.ahead));
    left_ahead = subst AllAhead (sym t.left) (ahead_append old.left.items h.left.items f.left_ahead s.left_ahead);
  }

  sound_drained : (all : List (Entry R)) (old new : Gathered R) (v : View) (st : List Span) → new.pieces.items ≡ old.pieces.items → Drains v st old.left.items new.left.items → IsSoundlyFound all old → IsSoundlyFound all new
  sound_drained all old new v st p d f = record {
    honest = subst (λ (ps : List (Piece R)). ArePiecesOf all ps) (sym p) f.honest;
    ahead = subst (λ (ps : List (Piece R)). AllAhead (spans_of ps)) (sym p) f.ahead;
    left_ahead = subst AllAhead (sym d.added) (ahead_append old.left.items d.rest f.left_ahead d.ahead);
  }

  found_taken : (key : List ℕ) (h : Hand R) (old new : Gathered R) (deque : Owner) (next : Option Theft) → TakesIn h old new deque next
      → found_at key new ≡ found_at key old + covering key (spans_of h.pieces.items) + covering key h.left.items
  found_taken key h old new deque next t =
      let a = ap (λ (ps : List (Piece R)). covering key (spans_of ps)) t.pieces
      ∙ (ap (λ (l : List Span). covering key l) (map-append (λ (p : Piece R). p.span) old.pieces.items h.pieces.items) ∙ covering_append key (spans_of old.pieces.items) (spans_of h.pieces.items)) in
      let b = ap (λ (l : List Span). covering key l) t.left ∙ covering_append key old.left.items h.left.items in
      omega (arith, a, b)

  found_drained : (key : List ℕ) (old new : Gathered R) (v : View) (st : List Span) → new.pieces.items ≡ old.pieces.items → (d : Drains v st old.left.items new.left.items) → found_at key new ≡ found_at key old + covering key d.rest
  found_drained key old new v st p d =
      let a = ap (λ (ps : List (Piece R)). covering key (spans_of ps)) p in
      let b = ap (λ (l : List Span). covering key l) d.added ∙ covering_append key old.left.items d.rest in
      omega (arith, a, b)

  same_hand : (hands : List (Hand R)) (i j : ℕ) (x y : Hand R) → i ≡ j → slice_get hands i ≡ Some x → slice_get hands j ≡ Some y → x ≡ y
  same_hand hands i j x y e a b = ap (held x) (sym a ∙ (ap (λ (k : ℕ). slice_get hands k) e ∙ b))
    where
      held : Hand R → Option (Hand R) → Hand R
      held d None = d
      held d (Some z) = z

  pub sound_none : (all : List (Entry R)) (g : Gathered R) → g.pieces.items ≡ [] → g.left.items ≡ [] → IsSoundlyFound all g
  sound_none all g p l = record {
    honest = subst (λ (ps : List (Piece R)). ArePiecesOf all ps) (sym p) tt;
    ahead = subst (λ (ps : List (Piece R)). AllAhead (spans_of ps)) (sym p) tt;
    left_ahead = subst AllAhead (sym l) tt;
  }

  -- the last hand is taken in
  pub opens : (hands rest : List (Hand R)) (last : Hand R) (old new : Gathered R) (deque : Owner) (first : Option Theft) → hands ≡ rest ++ last ∷ [] → TakesIn last old new deque first → IsOpen hands rest old new deque first
  opens hands rest last old new deque first e t = record {
    open_hand = last;
    done = [];
    split = e;
    deque_is = t.deque_is;
    first_is = t.next_is;
    pieces = t.pieces;
    lefts = λ p. let a = ap (λ (l : List Span). how_many p l) t.left ∙ counted_append p old.left.items last.left.items in omega (arith, a);
    balance = λ settled key.
        let s = settled_at rest last [] (subst AllSettled e settled) key in
        let f = found_taken key last old new deque first t in
        let g = ap (λ (l : List (Hand R)). given_at key l) e ∙ given_append key rest (last ∷ []) in
        omega (arith, s, f, g);
    shared = λ i h k le a b.
        let n = ap (λ (l : List (Hand R)). length l) e ∙ length-append rest (last ∷ []) in
        absurd (let w = slice_get_within hands (i + 1) k b in omega (arith, n, w, le));
    sound = λ all sound k. sound_taken all last old new deque first t (sound_at all rest last [] (subst (AllSound all) e sound)) k;
    none = λ done. added_none old.left.items new.left.items last.left.items t.left (kept_none last (done_at rest last [] (subst AllDone e done)));
  }

  -- one before it is taken in, and the open deque closed
  pub goes_on : (work : Work) (hands rest rest' : List (Hand R)) (h : Hand R) (old mid took new : Gathered R) (deque before : Owner) (first next : Option Theft) → AreHandsOf work hands
      → (o : IsOpen hands rest old mid deque first) → rest ≡ rest' ++ h ∷ [] → TakesIn h mid took before next → new.pieces.items ≡ took.pieces.items → Drains (worker_view deque) (stolen_in next (worker_view deque).log) took.left.items new.left.items
      → IsOpen hands rest' old new before first
  goes_on work hands rest rest' h old mid took new deque before first next a o e t p d =
      let k = o.open_hand in
      let split : hands ≡ rest' ++ h ∷ k ∷ o.done = o.split ∙ (ap (λ (l : List (Hand R)). l ++ k ∷ o.done) e ∙ append_assoc rest' (h ∷ []) (k ∷ o.done)) in
      let at : slice_get hands (length rest') ≡ Some h = ap (λ (l : List (Hand R)). slice_get l (length rest')) split ∙ get_middle rest' h (k ∷ o.done) in
      let more : 1 < length hands = let n = ap (λ (l : List (Hand R)). length l) split ∙ length-append rest' (h ∷ k ∷ o.done) in omega (arith, n) in
      let st : stolen_in next (worker_view deque).log ≡ stolen h = ap (λ (x : Option Theft). stolen_in x (worker_view deque).log) t.next_is ∙ (ap (λ (w : Owner). stolen_in h.next (worker_view w).log) o.deque_is ∙ stolen_way work hands (length rest') h k a at (inl more)) in
      record {
        open_hand = h;
        done = k ∷ o.done;
        split = split;
        deque_is = t.deque_is;
        first_is = o.first_is;
        pieces = p ∙ (t.pieces ∙ (ap (λ (l : List (Piece R)). l ++ h.pieces.items) o.pieces ∙ append_assoc old.pieces.items (pieces_in (k ∷ o.done)) h.pieces.items));
        lefts = λ q.
            let b = o.lefts q in
            let a = ap (λ (l : List Span). how_many q l) t.left ∙ counted_append q mid.left.items h.left.items in
            let x = ap (λ (l : List Span). how_many q l) d.added ∙ counted_append q took.left.items d.rest in
            let w = d.all q in
            let u = ap (λ (l : List Span). how_many q l) st in
            let v1 = ap (λ (y : Owner). how_many q (worker_view y).log.given) o.deque_is in
            let v2 = ap (λ (y : Owner). how_many q (worker_view y).log.pushed) o.deque_is in
            let v3 = ap (λ (y : Owner). how_many q (worker_view y).log.popped) o.deque_is in
            omega (arith, b, a, x, w, u, v1, v2, v3);
        balance = λ settled key.
            let b = o.balance settled key in
            let s = settled_at rest' h (k ∷ o.done) (subst AllSettled split settled) key in
            let f = found_taken key h mid took before next t in
            let x = found_drained key took new (worker_view deque) (stolen_in next (worker_view deque).log) p d in
            let g = ap (λ (l : List (Hand R)). given_at key l) e ∙ given_append key rest' (h ∷ []) in
            let w = d.all (has_key key) in
            let u = ap (λ (l : List Span). covering key l) st in
            let v1 = ap (λ (q : Owner). covering key (worker_view q).log.given) o.deque_is in
            let v2 = ap (λ (q : Owner). covering key (worker_view q).log.pushed) o.deque_is in
            let v3 = ap (λ (q : Owner). covering key (worker_view q).log.popped) o.deque_is in
            omega (arith, b, s, f, x, g, w, u, v1, v2, v3);
        shared = λ i x y le at_x at_y.
            let m = ap (λ (l : List (Hand R)). length l) e ∙ length-append rest' (h ∷ []) in
            elim (cases_le (length rest) i) [
              | inl far ↦
                  shared_more (own y) (own y) (stolen x) (stolen x) mid.left.items new.left.items refl refl
                  (λ q.
                  let a = more_left q mid.left.items took.left.items h.left.items t.left in
                  let b = more_left q took.left.items new.left.items d.rest d.added in
                  omega (arith, a, b)) (o.shared i x y far at_x at_y)
              | inr near ↦
                  let is : i ≡ length rest' = omega (arith, m, le, near) in
                  let at_k : slice_get hands (length rest' + 1) ≡ Some k =
                  ap (λ (l : List (Hand R)). slice_get l (length rest' + 1)) o.split ∙ (ap (λ (j : ℕ). slice_get (rest ++ k ∷ o.done) j) (sym m) ∙ get_middle rest k o.done) in
                  let here : x ≡ h = same_hand hands i (length rest') x h is at_x at in
                  let there : y ≡ k = same_hand hands (i + 1) (length rest' + 1) y k (ap (λ (j : ℕ). j + 1) is) at_y at_k in
                  shared_more (worker_view deque).log (own y) (stolen_in next (worker_view deque).log) (stolen x) new.left.items new.left.items
                  (ap (λ (z : Hand R). own z) there ∙ ap (λ (w : Owner). (worker_view w).log) (sym o.deque_is)) (ap (λ (z : Hand R). stolen z) here ∙ sym st) (λ q. omega arith)
                  (shared_drained (worker_view deque) (stolen_in next (worker_view deque).log) took.left.items new.left.items d)
            ];
        sound = λ all sound z.
            sound_drained all took new (worker_view deque) (stolen_in next (worker_view deque).log) p d
            (sound_taken all h mid took before next t (sound_at all rest' h (k ∷ o.done) (subst (AllSound all) split sound)) (o.sound all sound z));
        none = λ done.
            let shut = ap (λ (w : Owner). (worker_view w).marks.shut) o.deque_is ∙ (done_at rest k o.done (subst AllDone o.split done)).1 in
            added_none took.left.items new.left.items d.rest d.added (d.none shut)
            ∙ (added_none mid.left.items took.left.items h.left.items t.left (kept_none h (done_at rest' h (k ∷ o.done) (subst AllDone split done))) ∙ o.none done);
      }

  -- what close asks at each step, and at the end
  pub closes_next : (work : Work) (hands rest rest' : List (Hand R)) (h : Hand R) (old mid : Gathered R) (deque : Owner) (first : Option Theft) → AreHandsOf work hands → (o : IsOpen hands rest old mid deque first)
      → rest ≡ rest' ++ h ∷ [] → MatchOption h.next ((worker_view deque).log.thief ≡ true) (λ p. IsPassOf (worker_deque deque) p × ((view p).log.thief ≡ true))
  closes_next work hands rest rest' h old mid deque first a o e =
      let k = o.open_hand in
      let split : hands ≡ rest' ++ h ∷ k ∷ o.done = o.split ∙ (ap (λ (l : List (Hand R)). l ++ k ∷ o.done) e ∙ append_assoc rest' (h ∷ []) (k ∷ o.done)) in
      let n = ap (λ (l : List (Hand R)). length l) split ∙ length-append rest' (h ∷ k ∷ o.done) in
      let at : slice_get hands (length rest') ≡ Some h = ap (λ (l : List (Hand R)). slice_get l (length rest')) split ∙ get_middle rest' h (k ∷ o.done) in
      let m = length-append rest' (h ∷ []) in
      let at' : slice_get hands (length rest' + 1) ≡ Some k =
      ap (λ (l : List (Hand R)). slice_get l (length rest' + 1)) o.split
      ∙ (ap (λ (i : ℕ). slice_get (rest ++ k ∷ o.done) i) (sym (ap (λ (l : List (Hand R)). length l) e ∙ m)) ∙ get_middle rest k o.done) in
      subst (λ (w : Owner). MatchOption h.next ((worker_view w).log.thief ≡ true) (λ p. IsPassOf (worker_deque w) p × ((view p).log.thief ≡ true))) (sym o.deque_is)
      (closes work hands (length rest') (length rest' + 1) h k a at at' (follows (length hands) (length rest') (omega (arith, n))) (inl (omega (arith, n))))

  alone_or_more : (hands : List (Hand R)) (k : Hand R) (done : List (Hand R)) → hands ≡ k ∷ done → (1 < length hands) ⊎ (last_of k done ≡ k)
  alone_or_more hands k [] e = inr refl
  alone_or_more hands k (d ∷ ds) e = let n = ap (λ (l : List (Hand R)). length l) e in inl (omega (arith, n))

  pub closes_last : (work : Work) (hands : List (Hand R)) (old mid : Gathered R) (deque : Owner) (first : Option Theft) → AreHandsOf work hands → (o : IsOpen hands [] old mid deque first)
      → MatchOption first ((worker_view deque).log.thief ≡ true) (λ p. IsPassOf (worker_deque deque) p × ((view p).log.thief ≡ true))
  closes_last work hands old mid deque first a o =
      let k = o.open_hand in
      let l = last_of k o.done in
      let n = ap (λ (x : List (Hand R)). length x) o.split in
      let at : slice_get hands (length o.done) ≡ Some l = ap (λ (x : List (Hand R)). slice_get x (length o.done)) o.split ∙ get_last k o.done in
      let at' : slice_get hands 0 ≡ Some k = ap (λ (x : List (Hand R)). slice_get x 0) o.split in
      subst (λ (x : Option Theft × Owner). MatchOption x.0 ((worker_view x.1).log.thief ≡ true) (λ p. IsPassOf (worker_deque x.1) p × ((view p).log.thief ≡ true))) (λ i. (sym o.first_is i, sym o.deque_is i))
      (closes work hands (length o.done) 0 l k a at at' (begins_again (length hands) (length o.done) (omega (arith, n))) (alone_or_more hands k o.done o.split))

  -- the first deque is closed
  pub collected : (work : Work) (hands : List (Hand R)) (old mid new : Gathered R) (deque : Owner) (first : Option Theft) → AreHandsOf work hands → (o : IsOpen hands [] old mid deque first)
      → new.pieces.items ≡ mid.pieces.items → Drains (worker_view deque) (stolen_in first (worker_view deque).log) mid.left.items new.left.items → IsCollected hands old new
  collected work hands old mid new deque first a o p d =
      let k = o.open_hand in
      let l = last_of k o.done in
      let at : slice_get hands (length o.done) ≡ Some l = ap (λ (x : List (Hand R)). slice_get x (length o.done)) o.split ∙ get_last k o.done in
      let st : stolen_in first (worker_view deque).log ≡ stolen l =
      ap (λ (x : Option Theft). stolen_in x (worker_view deque).log) o.first_is ∙ (ap (λ (w : Owner). stolen_in l.next (worker_view w).log) o.deque_is ∙ stolen_way work hands (length o.done) l k a at (alone_or_more hands k o.done o.split)) in
      record {
        pieces = p ∙ (o.pieces ∙ ap (λ (y : List (Hand R)). old.pieces.items ++ pieces_in y) (sym o.split));
        lefts = λ q.
            let b = o.lefts q in
            let x = ap (λ (y : List Span). how_many q y) d.added ∙ counted_append q mid.left.items d.rest in
            let w = d.all q in
            let u = ap (λ (y : List Span). how_many q y) st in
            let v1 = ap (λ (y : Owner). how_many q (worker_view y).log.given) o.deque_is in
            let v2 = ap (λ (y : Owner). how_many q (worker_view y).log.pushed) o.deque_is in
            let v3 = ap (λ (y : Owner). how_many q (worker_view y).log.popped) o.deque_is in
            let m = ap (λ (y : List (Hand R)). taken_of q y) o.split in
            let n = ap (λ (y : List (Hand R)). came_of q y) o.split in
            omega (arith, b, x, w, u, v1, v2, v3, m, n);
        balance = λ settled key.
            let b = o.balance settled key in
            let x = found_drained key mid new (worker_view deque) (stolen_in first (worker_view deque).log) p d in
            let w = d.all (has_key key) in
            let u = ap (λ (s : List Span). covering key s) st in
            let v1 = ap (λ (q : Owner). covering key (worker_view q).log.given) o.deque_is in
            let v2 = ap (λ (q : Owner). covering key (worker_view q).log.pushed) o.deque_is in
            let v3 = ap (λ (q : Owner). covering key (worker_view q).log.popped) o.deque_is in
            omega (arith, b, x, w, u, v1, v2, v3);
        shared = λ i x y at_x at_y.
            let n = ap (λ (z : List (Hand R)). length z) o.split in
            let lt = slice_get_within hands i x at_x in
            elim (cases_le (length hands) (i + 1)) [
              | inl last_one ↦
                  let is : i ≡ length o.done = omega (arith, n, lt, last_one) in
                  let at_k : slice_get hands 0 ≡ Some k = ap (λ (z : List (Hand R)). slice_get z 0) o.split in
                  let here : x ≡ l = same_hand hands i (length o.done) x l is at_x at in
                  let there : y ≡ k = same_hand hands (following (length hands) i) 0 y k (begins_again (length hands) i (omega (arith, n, is))) at_y at_k in
                  shared_more (worker_view deque).log (own y) (stolen_in first (worker_view deque).log) (stolen x) new.left.items new.left.items
                  (ap (λ (z : Hand R). own z) there ∙ ap (λ (q : Owner). (worker_view q).log) (sym o.deque_is)) (ap (λ (z : Hand R). stolen z) here ∙ sym st) (λ q. omega arith)
                  (shared_drained (worker_view deque) (stolen_in first (worker_view deque).log) mid.left.items new.left.items d)
              | inr more ↦
                  shared_more (own y) (own y) (stolen x) (stolen x) mid.left.items new.left.items refl refl (λ q. more_left q mid.left.items new.left.items d.rest d.added)
                  (o.shared i x y (omega arith) at_x (ap (λ (j : ℕ). slice_get hands j) (sym (follows (length hands) i (omega (arith, more)))) ∙ at_y))
            ];
        sound = λ all sound z. sound_drained all mid new (worker_view deque) (stolen_in first (worker_view deque).log) p d (o.sound all sound z);
        none = λ done.
            let shut = ap (λ (w : Owner). (worker_view w).marks.shut) o.deque_is ∙ (done_at [] k o.done (subst AllDone o.split done)).1 in
            added_none mid.left.items new.left.items d.rest d.added (d.none shut) ∙ o.none done;
      }

  -- the same where nothing is left to take in
  pub closes_end : (work : Work) (hands rest : List (Hand R)) (old mid : Gathered R) (deque : Owner) (first : Option Theft) → AreHandsOf work hands → IsOpen hands rest old mid deque first → rest ≡ []
      → MatchOption first ((worker_view deque).log.thief ≡ true) (λ p. IsPassOf (worker_deque deque) p × ((view p).log.thief ≡ true))
  closes_end work hands rest old mid deque first a o z = closes_last work hands old mid deque first a (subst (λ (r : List (Hand R)). IsOpen hands r old mid deque first) z o)

  pub collected_end : (work : Work) (hands rest : List (Hand R)) (old mid new : Gathered R) (deque : Owner) (first : Option Theft) → AreHandsOf work hands → IsOpen hands rest old mid deque first → rest ≡ []
      → new.pieces.items ≡ mid.pieces.items → Drains (worker_view deque) (stolen_in first (worker_view deque).log) mid.left.items new.left.items → IsCollected hands old new
  collected_end work hands rest old mid new deque first a o z p d = collected work hands old mid new deque first a (subst (λ (r : List (Hand R)). IsOpen hands r old mid deque first) z o) p d

  pub none_left : (v : Vec (Hand R) Global) → vec_len v ≡ 0 → v.items ≡ []
  none_left v e = empty_is v.items (let o = v.ok.0 in omega (arith, e, o))

  pub collected_none : (old : Gathered R) (hands : List (Hand R)) → hands ≡ [] → IsCollected hands old old
  collected_none old hands e = record {
    pieces = sym (ap (λ (y : List (Hand R)). old.pieces.items ++ pieces_in y) e ∙ append-nil old.pieces.items);
    lefts = λ q. let a = ap (λ (y : List (Hand R)). taken_of q y) e in let b = ap (λ (y : List (Hand R)). came_of q y) e in omega (arith, a, b);
    balance = λ settled key. let g = ap (λ (l : List (Hand R)). given_at key l) e in omega (arith, g);
    shared = λ i x y a b. absurd (cc (sym (ap (λ (l : List (Hand R)). slice_get l i) e) ∙ a));
    sound = λ all sound z. z;
    none = λ done. refl;
  }
