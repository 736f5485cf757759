-- Hands that are made one after another.
use Rattle.kr_survey.specs.Joins.{lists}
use Rattle.std.proofs.Common.{Vec, Global, ◌≡◌, ◌⊎◌, inl, inr, ℕ, zero, suc, ◌+◌, ◌<◌, ◌≤◌, List, [], ◌∷◌, ◌++◌, Bool, true, false, Option, Some, None, length, refl, sym, ap, ◌∙◌, subst, arith, length-append}
use Rattle.std.specs.Prelude.{is_some, nat_lt, slice_get, slice_index_or, take, drop, IfSome, Result, Ok, Err, IfOk}
use Rattle.std.proofs.lemmas.List.{map-append}
use Rattle.std.proofs.lemmas.Option.{slice_get_within}
use Rattle.crossbeam_deque.specs.Handles.{view, IsPassOf, worker_deque, stealer_deque, worker_view, worker_flavor, worker_index, worker_capacity}
use Rattle.kr_base.specs.declared.span.Span.{Span}
use Rattle.kr_deque_hands.specs.declared.rule.View.{View}
use Rattle.kr_deque_hands.specs.declared.hand.Hand.{Hand}
use Rattle.kr_deque_hands.specs.declared.work.Work.{Work}
use Rattle.kr_deque_hands.specs.declared.starting.Building.{Building}
use Rattle.kr_deque_hands.specs.Logs.{log, no_marks, view_of, owner_part}
use Rattle.kr_deque_hands.specs.Hands.{Theft, Front, own, stolen_in, following, IsHandOf, AreHandsOf, IsFresh, AllFresh}
use Rattle.kr_deque_hands.specs.Building.{Owner, IsFilled, givens, IsMade, IsBuilt}
use Rattle.kr_deque_hands.proofs.Rings.{follows, begins_again, two_is, one_is}

pub get_front : {A : Type 0} (xs ys : List A) (i : ℕ) → i < length xs → slice_get (xs ++ ys) i ≡ slice_get xs i
get_front [] ys i h = absurd (omega arith)
get_front (x ∷ xs) ys zero h = refl
get_front (x ∷ xs) ys (suc i) h = get_front xs ys i (omega (arith, h))

pub get_cases : {A : Type 0} (xs : List A) (y z : A) (i : ℕ) → slice_get (xs ++ y ∷ []) i ≡ Some z → (slice_get xs i ≡ Some z) ⊎ ((i ≡ length xs) × (y ≡ z))
get_cases {A} [] y z zero h = inr (refl, ap (held y) h)
  where
    held : A → Option A → A
    held d None = d
    held d (Some x) = x
get_cases [] y z (suc i) h = absurd (cc (h))
get_cases (x ∷ xs) y z zero h = inl h
get_cases (x ∷ xs) y z (suc i) h = elim (get_cases xs y z i h) [ inl a ↦ inl a | inr b ↦ inr (ap suc b.0, b.1) ]

some_is : {A : Type 0} (x y : A) → Some x ≡ Some y → x ≡ y
some_is {A} x y h = ap (held x) h
  where
    held : A → Option A → A
    held d None = d
    held d (Some z) = z

pub filled_half : (given : List Span) (w v : Owner) → IsFilled true given w → worker_flavor v ≡ worker_flavor w → worker_index v ≡ worker_index w → worker_capacity w ≤ worker_capacity v
    → worker_view v ≡ owner_part (worker_view w) → IsFilled false given v
filled_half given w v f a b d e = record {
  fifo = a ∙ f.fifo;
  view_is = e ∙ ap owner_part f.view_is;
  room = let r = f.room in omega (arith, b, d, r);
}

pub given_of : (both : Bool) (given : List Span) (w : Owner) → IsFilled both given w → (worker_view w).log.given ≡ given
given_of both given w f = ap (λ (v : View). v.log.given) f.view_is

pub filled_own : (both : Bool) (given : List Span) (w : Owner) → IsFilled both given w → IsFilled both (worker_view w).log.given w
filled_own both given w f = subst (λ (g : List Span). IsFilled both g w) (sym (given_of both given w f)) f

-- lists of vectors, one more
lists_more : (vs : List (Vec Span Global)) (v : Vec Span Global) → lists (vs ++ v ∷ []) ≡ lists vs ++ v.items ∷ []
lists_more [] v = refl
lists_more (x ∷ vs) v = ap (λ (l : List (List Span)). x.items ∷ l) (lists_more vs v)

pub length_lists : (vs : List (Vec Span Global)) → length (lists vs) ≡ length vs
length_lists [] = refl
length_lists (v ∷ vs) = ap suc (length_lists vs)

-- the first list is taken away
pub removed : (vs : List (Vec Span Global)) (v : Vec Span Global) (rest : List (Vec Span Global)) → 0 < length vs → v ≡ slice_index_or vs 0 v → rest ≡ take 0 vs ++ drop 1 vs → lists vs ≡ v.items ∷ lists rest
removed [] v rest h value items = absurd (omega (arith, h))
removed (x ∷ xs) v rest h value items =
    subst (λ (w : Vec Span Global). x.items ∷ lists xs ≡ w.items ∷ lists rest) (sym value) (ap (λ (l : List (Vec Span Global)). x.items ∷ lists l) (sym items))

pub not_zero : (n : ℕ) → (n ≡ 0 → ⊥) → 0 < n
not_zero zero h = absurd (h refl)
not_zero (suc n) h = omega arith

module _ {R : Type 0} where
  pub begun : (b : Building R) (front : Front) (given : List Span) → b.fronts.items ≡ front ∷ [] → b.hands.items ≡ [] → IsFilled false given b.last → stealer_deque front ≡ worker_deque b.last
      → IsPassOf (worker_deque b.last) b.first → view b.first ≡ view_of (log false true [] [] [] []) no_marks → IsBuilt (given ∷ []) b
  begun b front given f h fill d pass v =
      let nh : length b.hands.items ≡ 0 = ap (λ (l : List (Hand R)). length l) h in
      let first : (s : Front) (i : ℕ) → i ≡ 0 → slice_get b.fronts.items i ≡ Some s → front ≡ s = λ s i z e.
      some_is front s (sym (ap (λ (l : List Front). slice_get l 0) f) ∙ (ap (λ (k : ℕ). slice_get b.fronts.items k) (sym z) ∙ e)) in
      record {
        count = let n = ap (λ (l : List Front). length l) f in omega (arith, n, nh);
        each = λ i x at. absurd (cc (sym (ap (λ (l : List (Hand R)). slice_get l i) h) ∙ at));
        given = given;
        lists_are = ap (λ (l : List (Hand R)). givens l ++ given ∷ []) h;
        filled = fill;
        last_owns = λ s e. subst (λ (x : Front). stealer_deque x ≡ worker_deque b.last) (first s (length b.hands.items) nh e) d;
        first_is = λ s e. subst (λ (x : Front). IsPassOf (stealer_deque x) b.first) (first s 0 refl e) (subst (λ k. IsPassOf k b.first) (sym d) pass);
        first_view = v;
      }

  made_more : (fronts : List Front) (front : Front) (i : ℕ) (h : Hand R) → i + 1 < length fronts → IsMade fronts i h → IsMade (fronts ++ front ∷ []) i h
  made_more fronts front i h lt m = record {
    number = m.number;
    fresh = m.fresh;
    thief = m.thief;
    owns = λ s e. m.owns s (sym (get_front fronts (front ∷ []) i (omega (arith, lt))) ∙ e);
    steals = λ s p e x. m.steals s p (sym (get_front fronts (front ∷ []) (i + 1) lt) ∙ e) x;
  }

  pub added : (lists : List (List Span)) (old new : Building R) (front : Front) (hand : Hand R) (next : Theft) (given : List Span) → IsBuilt lists old → new.fronts.items ≡ old.fronts.items ++ front ∷ []
      → new.hands.items ≡ old.hands.items ++ hand ∷ [] → hand.number ≡ length old.hands.items → hand.deque ≡ old.last → hand.next ≡ Some next → IsFresh hand → new.first ≡ old.first
      → IsFilled false given new.last → stealer_deque front ≡ worker_deque new.last → IsPassOf (worker_deque new.last) next → IsBuilt (lists ++ given ∷ []) new
  added lists old new front hand next given b f h number deque_is next_is fresh first fill d pass =
      let n : length old.fronts.items ≡ length old.hands.items + 1 = b.count in
      let here : (s : Front) → slice_get (old.fronts.items ++ front ∷ []) (length old.hands.items + 1) ≡ Some s → front ≡ s = λ s e.
      elim (get_cases old.fronts.items front s (length old.hands.items + 1) e) [
        | inl x ↦ absurd (let w = slice_get_within old.fronts.items (length old.hands.items + 1) s x in omega (arith, w, n))
        | inr y ↦ y.1
      ] in
      let mine : IsMade (old.fronts.items ++ front ∷ []) (length old.hands.items) hand = record {
        number = number;
        fresh = fresh;
        thief = ap (λ (o : Option Theft). is_some o) next_is;
        owns = λ s e. b.last_owns s (sym (get_front old.fronts.items (front ∷ []) (length old.hands.items) (omega (arith, n))) ∙ e) ∙ ap (λ (w : Owner). worker_deque w) (sym deque_is);
        steals = λ s p e x.
            subst (λ (t : Theft). IsPassOf (stealer_deque s) t) (some_is next p (sym next_is ∙ x))
            (subst (λ (y : Front). IsPassOf (stealer_deque y) next) (here s e) (subst (λ k. IsPassOf k next) (sym d) pass));
      } in
      record {
        count = let x = ap (λ (l : List Front). length l) f ∙ length-append old.fronts.items (front ∷ []) in let y = ap (λ (l : List (Hand R)). length l) h ∙ length-append old.hands.items (hand ∷ []) in omega (arith, x, y, n);
        each = λ i x at. subst (λ (l : List Front). IsMade l i x) (sym f) (elim (get_cases old.hands.items hand x i (ap (λ (l : List (Hand R)). slice_get l i) (sym h) ∙ at)) [
          | inl y ↦ made_more old.fronts.items front i x (let w = slice_get_within old.hands.items i x y in omega (arith, w, n)) (b.each i x y)
          | inr y ↦ subst (λ (k : ℕ). IsMade (old.fronts.items ++ front ∷ []) k x) (sym y.0) (subst (λ (z : Hand R). IsMade (old.fronts.items ++ front ∷ []) (length old.hands.items) z) y.1 mine)
        ]);
        given = given;
        lists_are =
            let g : (own hand).given ≡ b.given = ap (λ (w : Owner). (worker_view w).log.given) deque_is ∙ given_of false b.given old.last b.filled in
            let m : givens new.hands.items ≡ givens old.hands.items ++ (own hand).given ∷ [] = ap (λ (l : List (Hand R)). givens l) h ∙ map-append (λ (x : Hand R). (own x).given) old.hands.items (hand ∷ []) in
            ap (λ (l : List (List Span)). l ++ given ∷ []) (m ∙ (ap (λ (x : List Span). givens old.hands.items ++ x ∷ []) g ∙ b.lists_are));
        filled = fill;
        last_owns = λ s e.
            let k : length new.hands.items ≡ length old.hands.items + 1 = ap (λ (l : List (Hand R)). length l) h ∙ length-append old.hands.items (hand ∷ []) in
            let e' : slice_get (old.fronts.items ++ front ∷ []) (length old.hands.items + 1) ≡ Some s = ap (λ (l : List Front). slice_get l (length old.hands.items + 1)) (sym f) ∙ (ap (λ (i : ℕ). slice_get new.fronts.items i) (sym k) ∙ e) in
            subst (λ (y : Front). stealer_deque y ≡ worker_deque new.last) (here s e') d;
        first_is = λ s e. subst (λ (t : Theft). IsPassOf (stealer_deque s) t) (sym first) (b.first_is s (sym (get_front old.fronts.items (front ∷ []) 0 (omega (arith, n))) ∙ (ap (λ (l : List Front). slice_get l 0) (sym f) ∙ e)));
        first_view = ap (λ (t : Theft). view t) first ∙ b.first_view;
      }

  pub built_more : (first : List Span) (vs : List (Vec Span Global)) (v : Vec Span Global) (b : Building R) → IsBuilt ((first ∷ lists vs) ++ v.items ∷ []) b → IsBuilt (first ∷ lists (vs ++ v ∷ [])) b
  built_more first vs v b h = subst (λ (l : List (List Span)). IsBuilt (first ∷ l) b) (sym (lists_more vs v)) h

  length_givens : (hs : List (Hand R)) → length (givens hs) ≡ length hs
  length_givens [] = refl
  length_givens (h ∷ hs) = ap suc (length_givens hs)

  -- as many hands as lists after the first
  pub built_count : (first : List Span) (vs : List (Vec Span Global)) (b : Building R) → IsBuilt (first ∷ lists vs) b → length b.hands.items ≡ length vs
  built_count first vs b h =
      let a = ap (λ (l : List (List Span)). length l) h.lists_are in
      let d = length-append (givens b.hands.items) (h.given ∷ []) in
      omega (arith, a, d, length_givens b.hands.items, length_lists vs)

  pub given_ok : {E : Type 0} (r : Result (Work × Vec (Hand R) Global) E) (a b : List (List Span)) → a ≡ b → IfOk r (λ x. givens x.1.items ≡ a) → IfOk r (λ x. givens x.1.items ≡ b)
  given_ok (Ok x) a b e g = g ∙ e
  given_ok (Err e) a b f g = tt

  fresh_all : (hs : List (Hand R)) → ((i : ℕ) (h : Hand R) → slice_get hs i ≡ Some h → IsFresh h) → AllFresh hs
  fresh_all [] f = tt
  fresh_all (h ∷ hs) f = (f 0 h refl, fresh_all hs (λ i x e. f (suc i) x e))

  module _ (lists : List (List Span)) (b : Building R) (hand : Hand R) (hands : List (Hand R)) (built : IsBuilt lists b) (some : 0 < length b.hands.items) (h : hands ≡ b.hands.items ++ hand ∷ [])
      (number : hand.number ≡ length b.hands.items) (deque_is : hand.deque ≡ b.last) (next_is : hand.next ≡ Some b.first) (fresh : IsFresh hand) where
    pub all_hands : (work : Work) → work.fronts.items ≡ b.fronts.items → AreHandsOf work hands
    all_hands work f =
        let n = built.count in
        let fl = ap (λ (l : List Front). length l) f in
        let hl = ap (λ (l : List (Hand R)). length l) h ∙ length-append b.hands.items (hand ∷ []) in
        let two : nat_lt 1 (length work.fronts.items) ≡ true = two_is (length work.fronts.items) (omega (arith, n, fl, some)) in
        record {
          count = omega (arith, n, fl, hl);
          each = λ i x at. elim (get_cases b.hands.items hand x i (ap (λ (l : List (Hand R)). slice_get l i) (sym h) ∙ at)) [
            | inl y ↦
                let m = built.each i x y in
                let w = slice_get_within b.hands.items i x y in (
                  m.number,
                  record {
                    below = let k = m.number in omega (arith, k, w, n, fl);
                    owns = λ s e. m.owns s (ap (λ (l : List Front). slice_get l i) (sym f) ∙ (ap (λ (k : ℕ). slice_get work.fronts.items k) (sym m.number) ∙ e));
                    steals = λ s p e q.
                        m.steals s p (ap (λ (l : List Front). slice_get l (i + 1)) (sym f)
                        ∙ (ap (λ (k : ℕ). slice_get work.fronts.items k) (sym (ap (λ (k : ℕ). following (length work.fronts.items) k) m.number ∙ follows (length work.fronts.items) i (omega (arith, w, n, fl)))) ∙ e)) q;
                    two = m.thief ∙ sym two;
                  },
                )
            | inr y ↦
                subst (λ (z : Hand R). (z.number ≡ i) × IsHandOf work z) y.1 (
                  number ∙ sym y.0,
                  record {
                    below = omega (arith, number, n, fl);
                    owns = λ s e.
                        built.last_owns s (ap (λ (l : List Front). slice_get l (length b.hands.items)) (sym f) ∙ (ap (λ (k : ℕ). slice_get work.fronts.items k) (sym number) ∙ e)) ∙ ap (λ (w : Owner). worker_deque w) (sym deque_is);
                    steals = λ s p e q.
                        subst (λ (t : Theft). IsPassOf (stealer_deque s) t) (some_is b.first p (sym next_is ∙ q))
                        (built.first_is s (ap (λ (l : List Front). slice_get l 0) (sym f)
                        ∙ (ap (λ (k : ℕ). slice_get work.fronts.items k) (sym (ap (λ (k : ℕ). following (length work.fronts.items) k) number ∙ begins_again (length work.fronts.items) (length b.hands.items) (omega (arith, n, fl)))) ∙ e)));
                    two = ap (λ (o : Option Theft). is_some o) next_is ∙ sym two;
                  },
                )
          ];
        }

    pub all_given : givens hands ≡ lists
    all_given =
        let g : (own hand).given ≡ built.given = ap (λ (w : Owner). (worker_view w).log.given) deque_is ∙ given_of false built.given b.last built.filled in
        ap (λ (l : List (Hand R)). givens l) h ∙ (map-append (λ (x : Hand R). (own x).given) b.hands.items (hand ∷ []) ∙ (ap (λ (x : List Span). givens b.hands.items ++ x ∷ []) g ∙ built.lists_are))

    pub all_fresh : AllFresh hands
    all_fresh = fresh_all hands (λ i x at. elim (get_cases b.hands.items hand x i (ap (λ (l : List (Hand R)). slice_get l i) (sym h) ∙ at)) [
      | inl y ↦ (built.each i x y).fresh
      | inr y ↦ subst (λ (z : Hand R). IsFresh z) y.1 fresh
    ])

  -- one hand alone
  pub alone_hands : (work : Work) (front : Front) (hand : Hand R) → work.fronts.items ≡ front ∷ [] → hand.number ≡ 0 → hand.next ≡ None → stealer_deque front ≡ worker_deque hand.deque → AreHandsOf work (hand ∷ [])
  alone_hands work front hand f number none d =
      let fl = ap (λ (l : List Front). length l) f in
      record {
        count = sym fl;
        each = λ i x at. elim (get_cases [] hand x i at) [
          | inl y ↦ absurd (cc (y))
          | inr y ↦
              subst (λ (z : Hand R). (z.number ≡ i) × IsHandOf work z) y.1 (
                number ∙ sym y.0,
                record {
                  below = omega (arith, number, fl);
                  owns = λ s e. subst (λ (q : Front). stealer_deque q ≡ worker_deque hand.deque) (some_is front s (sym (ap (λ (l : List Front). slice_get l 0) f) ∙ (ap (λ (k : ℕ). slice_get work.fronts.items k) (sym number) ∙ e))) d;
                  steals = λ s p e q. absurd (cc (sym none ∙ q));
                  two = ap (λ (o : Option Theft). is_some o) none ∙ sym (one_is (length work.fronts.items) (omega (arith, fl)));
                },
              )
        ];
      }

  -- a hand as it is made
  pub made_fresh : (both : Bool) (given : List Span) (h : Hand R) → IsFilled both given h.deque → IfSome h.next (λ p. view p ≡ view_of (log false true [] [] [] []) no_marks) → h.pieces.items ≡ [] → h.left.items ≡ [] → h.refused ≡ None → IsFresh h
  made_fresh both given h f n p l u = record {
    pushed = ap (λ (v : View). v.log.pushed) f.view_is;
    popped = ap (λ (v : View). v.log.popped) f.view_is;
    stolen_none = go h.next n;
    pieces = p;
    left = l;
    unmarked = u;
  }
    where
      go : (o : Option Theft) → IfSome o (λ p. view p ≡ view_of (log false true [] [] [] []) no_marks) → stolen_in o (own h) ≡ []
      go None x = ap (λ (v : View). v.log.stolen) f.view_is
      go (Some q) x = ap (λ (v : View). v.log.stolen) x
