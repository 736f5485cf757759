-- Counting spans at a cut and right after it.
use Rattle.std.proofs.Common.{◌≡◌, ◌⊎◌, inl, inr, ℕ, ◌+◌, ◌<◌, List, [], ◌∷◌, ◌++◌, Bool, true, false, ◌&&◌, not, refl, sym, ap, ◌∙◌, subst, arith}
use Rattle.std.specs.Prelude.{IsPermutation}
use Rattle.std.specs.List.{sum_by}
use Rattle.std.proofs.lemmas.List.Sums.{sum_by-cons}
use Rattle.std.proofs.lemmas.List.Sorted.{sum_by-IsPermutation}
use Rattle.std.proofs.lemmas.Bool.{and_parts, not-true}
use Rattle.kr_base.specs.declared.span.Bound.{Bound}
use Rattle.kr_base.specs.declared.span.Bound.TheVariants.{At, End}
use Rattle.kr_base.specs.declared.span.Span.{Span}
use Rattle.kr_base.specs.Cuts.{Before, is_before}
use Rattle.kr_base.specs.Bounds.{less}
use Rattle.kr_base.proofs.Orders.{before_from_test, test_from_before, test_transitive, test_connected}
use Rattle.kr_base.proofs.Bounds.{irreflexive, transitive, connected}
use Rattle.kr_survey.specs.Spans.{one, how_many, is_ahead, has_key, covering}
use Rattle.kr_deque.specs.Breaks.{begins_at, ends_at, goes_over}
use Rattle.kr_deque_hands.specs.Pieces.{AllAhead}
use Rattle.kr_deque_hands.proofs.Covers.{Stand, below, same, above, stand}

-- the first cut after one
abbrev pub next : List ℕ → List ℕ
next c = c ++ 0 ∷ []

none_between : (c x : List ℕ) → Before c x → Before x (next c) → ⊥
none_between [] [] p q = p
none_between [] (x ∷ []) p (inl l) = omega (arith, l)
none_between [] (x ∷ []) p (inr e) = e.1
none_between [] (x ∷ y ∷ ys) p (inl l) = omega (arith, l)
none_between [] (x ∷ y ∷ ys) p (inr e) = e.1
none_between (c ∷ cs) [] p q = p
none_between (c ∷ cs) (x ∷ xs) (inl l) (inl m) = omega (arith, l, m)
none_between (c ∷ cs) (x ∷ xs) (inl l) (inr e) = let d = e.0 in omega (arith, l, d)
none_between (c ∷ cs) (x ∷ xs) (inr d) (inl m) = let e = d.0 in omega (arith, m, e)
none_between (c ∷ cs) (x ∷ xs) (inr d) (inr e) = none_between cs xs d.1 e.1

next_after : (c : List ℕ) → Before c (next c)
next_after [] = tt
next_after (c ∷ cs) = inr (refl, next_after cs)

flips : (a b : Bool) → (a ≡ true → b ≡ true → ⊥) → (a ≡ false → b ≡ true) → b ≡ not a
flips true true p q = absurd (p refl refl)
flips true false p q = refl
flips false true p q = refl
flips false false p q = q refl

-- a cut is before the next of another one exactly where that one isn't before it
test_next : (x c : List ℕ) → is_before x (next c) ≡ not (is_before c x)
test_next x c = flips (is_before c x) (is_before x (next c)) (λ p q. none_between c x (before_from_test c x p) (before_from_test x (next c) q))
    (λ p. elim (is_before x c) as (λ t. is_before x c ≡ t → is_before x (next c) ≡ true) [
      | true ↦ λ q. test_transitive x c (next c) q (test_from_before c (next c) (next_after c))
      | false ↦ λ q. subst (λ (y : List ℕ). is_before y (next c) ≡ true) (test_connected c x p q) (test_from_before c (next c) (next_after c))
    ] refl)

pub less_next : (b : Bound) (c : List ℕ) → less b (At (next c)) ≡ not (less (At c) b)
unfolding less
less_next (At x) c = test_next x c
less_next End c = refl

-- Where a span is ahead: whether it has a cut or begins there is whether it has the next one or ends there.
pub step_one : (c : List ℕ) (s : Span) → is_ahead s ≡ true → one (has_key c s) + one (begins_at c s) ≡ one (has_key (next c) s) + one (ends_at c s)
step_one c s h = go (stand (At s.after) (At c)) (stand s.upto (At c))
  where
    go : Stand (At s.after) (At c) → Stand s.upto (At c) → one (has_key c s) + one (begins_at c s) ≡ one (has_key (next c) s) + one (ends_at c s)
    go (below p q) (below r t) = rw (less_next (At s.after) c, less_next s.upto c, p, q, r, t) refl
    go (below p q) (same r t) = rw (less_next (At s.after) c, less_next s.upto c, p, q, r, t) refl
    go (below p q) (above r t) = rw (less_next (At s.after) c, less_next s.upto c, p, q, r, t) refl
    go (same p q) (below r t) = absurd (cc (sym (ap (λ (b : Bound). less b s.upto) (connected (At s.after) (At c) p q)) ∙ h, t))
    go (same p q) (same r t) = absurd (cc (sym (ap (λ (b : Bound). less b s.upto) (connected (At s.after) (At c) p q)) ∙ h, t))
    go (same p q) (above r t) = rw (less_next (At s.after) c, less_next s.upto c, p, q, r, t) refl
    go (above p q) (below r t) = absurd (cc (transitive (At c) (At s.after) s.upto q h, t))
    go (above p q) (same r t) = absurd (cc (transitive (At c) (At s.after) s.upto q h, t))
    go (above p q) (above r t) = rw (less_next (At s.after) c, less_next s.upto c, p, q, r, t) refl

pub step_all : (c : List ℕ) (ss : List Span) → AllAhead ss → covering c ss + how_many (begins_at c) ss ≡ covering (next c) ss + how_many (ends_at c) ss
step_all c [] h = refl
step_all c (s ∷ ss) h = omega (arith, step_one c s h.0, step_all c ss h.1)

-- a span goes over a cut exactly where it has the next one
pub over_next : (c : List ℕ) (s : Span) → goes_over c s ≡ has_key (next c) s
over_next c s = rw (less_next (At s.after) c, less_next s.upto c) (twice (less (At c) s.upto))
  where
    twice : (b : Bool) → (not (less (At c) (At s.after)) && b) ≡ (not (less (At c) (At s.after)) && not (not b))
    twice true = refl
    twice false = refl

pub over_all : (c : List ℕ) (ss : List Span) → how_many (goes_over c) ss ≡ covering (next c) ss
over_all c [] = refl
over_all c (s ∷ ss) = ap (λ (b : Bool). one b + how_many (goes_over c) ss) (over_next c s) ∙ ap (λ (n : ℕ). one (has_key (next c) s) + n) (over_all c ss)

-- one of a list
abbrev pub IsIn : {A : Type 0} → A → List A → Type 0
IsIn x [] = ⊥
IsIn x (y ∷ ys) = (y ≡ x) ⊎ IsIn x ys

pub counted_one : {A : Type 0} (p : A → Bool) (x : A) (xs : List A) → IsIn x xs → p x ≡ true → 0 < how_many p xs
counted_one p x [] i h = absurd i
counted_one p x (y ∷ ys) (inl e) h = let q : one (p y) ≡ 1 = ap one (ap p e ∙ h) in omega (arith, q)
counted_one p x (y ∷ ys) (inr i) h = omega (arith, counted_one p x ys i h)

pub counted_none : {A : Type 0} (p : A → Bool) (xs : List A) → ((x : A) → IsIn x xs → p x ≡ false) → how_many p xs ≡ 0
counted_none p [] f = refl
counted_none p (x ∷ xs) f = let q : one (p x) ≡ 0 = ap one (f x (inl refl)) in omega (arith, q, counted_none p xs (λ y i. f y (inr i)))

counted_sum : {A : Type 0} (p : A → Bool) (xs : List A) → how_many p xs ≡ sum_by (λ x. one (p x)) xs
counted_sum p [] = refl
counted_sum p (x ∷ xs) = ap (λ (n : ℕ). one (p x) + n) (counted_sum p xs) ∙ sym (sum_by-cons (λ y. one (p y)) x xs)

pub counted_permutation : {A : Type 0} (p : A → Bool) (xs ys : List A) → IsPermutation xs ys → how_many p ys ≡ how_many p xs
counted_permutation p xs ys h = counted_sum p ys ∙ (sum_by-IsPermutation (λ x. one (p x)) xs ys h ∙ sym (counted_sum p xs))

pub ahead_in : (s : Span) (ss : List Span) → AllAhead ss → IsIn s ss → is_ahead s ≡ true
ahead_in s [] h i = absurd i
ahead_in s (t ∷ ss) h (inl e) = subst (λ (u : Span). is_ahead u ≡ true) e h.0
ahead_in s (t ∷ ss) h (inr i) = ahead_in s ss h.1 i

-- what begins at a cut is a span from there
pub begins_there : (c : List ℕ) (s : Span) → begins_at c s ≡ true → At s.after ≡ At c
begins_there c s h =
    connected (At s.after) (At c) (not-true (less (At s.after) (At c)) (and_parts (not (less (At s.after) (At c))) (not (less (At c) (At s.after))) h).0)
    (not-true (less (At c) (At s.after)) (and_parts (not (less (At s.after) (At c))) (not (less (At c) (At s.after))) h).1)

-- and one that is ahead has the next cut
pub has_next : (c : List ℕ) (s : Span) → begins_at c s ≡ true → is_ahead s ≡ true → has_key (next c) s ≡ true
has_next c s b h =
    let e : At s.after ≡ At c = begins_there c s b in
    let low : less (At c) (At s.after) ≡ false = ap (λ (x : Bound). less (At c) x) e ∙ irreflexive (At c) in
    let up : less (At c) s.upto ≡ true = ap (λ (x : Bound). less x s.upto) (sym e) ∙ h in
    sym (over_next c s) ∙ rw (low, up) refl
