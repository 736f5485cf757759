-- Spans that adjoin.
use Rattle.std.proofs.Common.{◌≡◌, ◌⊎◌, inl, inr, ℕ, ◌+◌, ◌<◌, List, [], ◌∷◌, ◌++◌, Bool, true, false, ◌&&◌, not, refl, sym, ap, ◌∙◌, subst, arith}
use Rattle.kr_base.specs.declared.span.Bound.{Bound}
use Rattle.kr_base.specs.declared.span.Bound.TheVariants.{At}
use Rattle.kr_base.specs.declared.span.Span.{Span}
use Rattle.kr_base.specs.Bounds.{less}
use Rattle.kr_base.specs.Entries.{is_within}
use Rattle.kr_base.proofs.Bounds.{irreflexive, transitive, connected, not_above, asymmetric}
use Rattle.kr_survey.specs.Spans.{one, how_many, has_key, covering, Adjoins}
use Rattle.kr_deque.specs.Breaks.{ends_at}
use Rattle.kr_deque_hands.specs.Pieces.{AllAhead}
use Rattle.kr_deque_hands.proofs.Covers.{two_parts, Stand, below, same, above, stand}
use Rattle.kr_deque.proofs.Counts.{IsIn}

-- a list of spans that adjoin reaches a bound that isn't before its start
pub comes : (a b : Bound) (ss : List Span) → AllAhead ss → Adjoins a ss b → less b a ≡ false
comes a b [] h k = ap (λ (x : Bound). less x a) (sym k) ∙ irreflexive a
comes a b (s ∷ ss) h k =
    let later : less b s.upto ≡ false = comes s.upto b ss h.1 k.1 in
    let up : less a s.upto ≡ true = ap (λ (x : Bound). less x s.upto) (sym k.0) ∙ h.0 in
    asymmetric a b (passes (stand s.upto b) up later)
  where
    passes : Stand s.upto b → less a s.upto ≡ true → less b s.upto ≡ false → less a b ≡ true
    passes (below p q) up later = transitive a s.upto b up p
    passes (same p q) up later = ap (λ (x : Bound). less a x) (sym (connected s.upto b p q)) ∙ up
    passes (above p q) up later = absurd (cc (q, later))

nowhere : (a : Bound) (key : List ℕ) → is_within a a key ≡ false
nowhere a key = go (less a (At key))
  where
    go : (b : Bool) → (b && not b) ≡ false
    go true = refl
    go false = refl

-- spans that adjoin have each key of the whole once
pub covers : (a b : Bound) (ss : List Span) (key : List ℕ) → AllAhead ss → Adjoins a ss b → covering key ss ≡ one (is_within a b key)
covers a b [] key h k = sym (ap one (ap (λ (x : Bound). is_within a x key) (sym k) ∙ nowhere a key))
covers a b (s ∷ ss) key h k =
    let here : one (has_key key s) ≡ one (is_within a s.upto key) = ap (λ (x : Bound). one (is_within x s.upto key)) k.0 in
    let up : less s.upto a ≡ false = asymmetric a s.upto (ap (λ (x : Bound). less x s.upto) (sym k.0) ∙ h.0) in
    omega (arith, here, covers s.upto b ss key h.1 k.1, two_parts a s.upto b key up (comes s.upto b ss h.1 k.1))

-- each of them is inside
pub lies : (a b : Bound) (ss : List Span) (s : Span) → AllAhead ss → Adjoins a ss b → IsIn s ss → (less (At s.after) a ≡ false) × (less b s.upto ≡ false)
lies a b [] s h k i = absurd i
lies a b (t ∷ ss) s h k (inl e) =
    subst (λ (u : Span). (less (At u.after) a ≡ false) × (less b u.upto ≡ false)) e (ap (λ (x : Bound). less x a) k.0 ∙ irreflexive a, comes t.upto b ss h.1 k.1)
lies a b (t ∷ ss) s h k (inr i) =
    let r = lies t.upto b ss s h.1 k.1 i in
    let up : less t.upto a ≡ false = asymmetric a t.upto (ap (λ (x : Bound). less x t.upto) (sym k.0) ∙ h.0) in
    (not_above a t.upto (At s.after) up r.0, r.1)

-- they reach their start, or one ends where they get to
pub last_ends : (a : Bound) (c : List ℕ) (ss : List Span) → Adjoins a ss (At c) → (a ≡ At c) ⊎ (0 < how_many (ends_at c) ss)
last_ends a c [] k = inl k
last_ends a c (s ∷ ss) k = elim (last_ends s.upto c ss k.1) [
  | inl e ↦
      let here : ends_at c s ≡ true = ap (λ (x : Bound). not (less x (At c)) && not (less (At c) x)) e ∙ rw (irreflexive (At c)) refl in
      let n : one (ends_at c s) ≡ 1 = ap one here in
      inr (omega (arith, n))
  | inr m ↦ inr (omega (arith, m))
]

pub ahead_two : (xs ys : List Span) → AllAhead (xs ++ ys) → AllAhead xs × AllAhead ys
ahead_two [] ys h = (tt, h)
ahead_two (x ∷ xs) ys h = let r = ahead_two xs ys h.1 in ((h.0, r.0), r.1)

pub adjoins_more : (a b : Bound) (xs : List Span) (s : Span) → Adjoins a xs b → At s.after ≡ b → Adjoins a (xs ++ s ∷ []) s.upto
adjoins_more a b [] s k e = (e ∙ sym k, refl)
adjoins_more a b (x ∷ xs) s k e = (k.0, adjoins_more x.upto b xs s k.1 e)

pub in_two : (xs ys : List Span) (s : Span) → IsIn s (xs ++ ys) → IsIn s xs ⊎ IsIn s ys
in_two [] ys s i = inr i
in_two (x ∷ xs) ys s (inl e) = inl (inl e)
in_two (x ∷ xs) ys s (inr i) = elim (in_two xs ys s i) [ inl j ↦ inl (inr j) | inr j ↦ inr j ]
