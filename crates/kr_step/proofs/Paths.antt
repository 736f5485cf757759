-- Vectors that follow a path.
use Rattle.std.proofs.Common.{◌≡◌, ℕ, ◌<◌, inl, inr, List, [], ◌∷◌, ◌++◌, refl, sym, ap, ◌∙◌, subst, arith, get_or, Option, Some, None, append_assoc}
use Rattle.kr_mean.specs.Problem.{DomainObject}
use Rattle.kr_mean.specs.Space.{Space}
use Rattle.kr_mean.specs.Blocks.{IsSpace}
use Rattle.kr_base.specs.Cuts.{Before}
use Rattle.kr_mean.specs.Readings.{Forks, AllBelow, Lacks, Differ}
use Rattle.kr_mean.specs.Runs.{key_along}
use Rattle.kr_iso.specs.Choices.{AllowedPath}
use Rattle.kr_mean.specs.Choices.{MayStand, IsAllowed, AllowedAlong}
use Rattle.kr_step.specs.Steps.{path_of, slots_of, indices_of, OnPath, NextIs}

pub on_front : (u : List ℕ) (xs ys : List (ℕ × ℕ)) → OnPath u (xs ++ ys) → OnPath u xs
on_front u [] ys h = tt
on_front u (p ∷ xs) ys h = (h.0, on_front u xs ys h.1)

pub on_last : (u : List ℕ) (xs : List (ℕ × ℕ)) (p : ℕ × ℕ) → OnPath u (xs ++ p ∷ []) → get_or u p.0 0 ≡ p.1
on_last u [] p h = h.0
on_last u (q ∷ xs) p h = on_last u xs p h.1

pub on_more : (u : List ℕ) (xs : List (ℕ × ℕ)) (p : ℕ × ℕ) → OnPath u xs → get_or u p.0 0 ≡ p.1 → OnPath u (xs ++ p ∷ [])
on_more u [] p h e = (e, tt)
on_more u (q ∷ xs) p h e = (h.0, on_more u xs p h.1 e)

-- two vectors on one path read the same slot next
pub next_shared : (v u : List ℕ) (Q : Type 0) (path : List (ℕ × ℕ)) (s : ℕ) (vs us : List ℕ) → Forks v u Q vs us → NextIs v path s vs → OnPath u path → NextIs u path s us
next_shared v u Q [] s [] us f n o = absurd n
next_shared v u Q [] s (t ∷ ts) [] f n o = absurd f
next_shared v u Q [] s (t ∷ ts) (t' ∷ us) f n o = n ∙ f.0
next_shared v u Q (p ∷ path) s [] us f n o = absurd n
next_shared v u Q (p ∷ path) s (t ∷ ts) [] f n o = absurd f
next_shared v u Q (p ∷ path) s (t ∷ ts) (t' ∷ us) f n o =
    let here : get_or u t 0 ≡ p.1 = ap (λ (x : ℕ). get_or u x 0) (sym n.0) ∙ o.0 in
    let there : get_or u t' 0 ≡ p.1 = ap (λ (x : ℕ). get_or u x 0) (sym f.0) ∙ here in
    (n.0 ∙ f.0, there, next_shared v u Q path s ts us (f.1 (n.1 ∙ sym here)) n.2 o.1)

-- a front of an order's path, and the slot after it
pub next_of : (v : List ℕ) (path : List (ℕ × ℕ)) (s i : ℕ) (rest : List (ℕ × ℕ)) (vs : List ℕ) → path_of v vs ≡ path ++ (s, i) ∷ rest → NextIs v path s vs
next_of v [] s i rest [] e = cc
next_of v [] s i rest (t ∷ ts) e = let h : (t, get_or v t 0) ≡ (s, i) = cc in sym (ap (λ (x : ℕ × ℕ). x.0) h)
next_of v (p ∷ path) s i rest [] e = cc
next_of v (p ∷ path) s i rest (t ∷ ts) e =
    let h : (t, get_or v t 0) ≡ p = cc in
    (sym (ap (λ (x : ℕ × ℕ). x.0) h), ap (λ (x : ℕ × ℕ). x.1) h, next_of v path s i rest ts (cc))

-- the order in full: the path's slots, the slot, and more
pub next_rest : (u : List ℕ) (path : List (ℕ × ℕ)) (s : ℕ) (us : List ℕ) → NextIs u path s us → (rest : List ℕ) × (us ≡ slots_of path ++ s ∷ rest)
next_rest u [] s [] n = absurd n
next_rest u [] s (t ∷ ts) n = (ts, ap (λ (x : ℕ). x ∷ ts) (sym n))
next_rest u (p ∷ path) s [] n = absurd n
next_rest u (p ∷ path) s (t ∷ ts) n =
    let r = next_rest u path s ts n.2 in
    (r.0, ap (λ (x : ℕ). x ∷ ts) (sym n.0) ∙ ap (λ (l : List ℕ). p.0 ∷ l) r.1)

pub next_below : (S : Space) (u : List ℕ) (path : List (ℕ × ℕ)) (s : ℕ) (us : List ℕ) → AllBelow S.slots us → NextIs u path s us → s < S.slots
next_below S u [] s [] b n = absurd n
next_below S u [] s (t ∷ ts) b n = rw n b.0
next_below S u (p ∷ path) s [] b n = absurd n
next_below S u (p ∷ path) s (t ∷ ts) b n = next_below S u path s ts b.1 n.2

-- the next choice is allowed after the path
pub next_allowed : (S : Space) (u : List ℕ) (before path : List (ℕ × ℕ)) (s : ℕ) (us : List ℕ) → AllowedAlong S u before us → NextIs u path s us → IsAllowed S (before ++ path) s (get_or u s 0)
next_allowed S u before [] s [] a n = absurd n
next_allowed S u before [] s (t ∷ ts) a n = subst (λ (x : ℕ). IsAllowed S (before ++ []) x (get_or u x 0)) (sym n) (subst (λ (b : List (ℕ × ℕ)). IsAllowed S b t (get_or u t 0)) (sym (append_nil before)) a.0)
  where
    append_nil : (xs : List (ℕ × ℕ)) → xs ++ [] ≡ xs
    append_nil [] = refl
    append_nil (x ∷ xs) = ap (λ (l : List (ℕ × ℕ)). x ∷ l) (append_nil xs)
next_allowed S u before (p ∷ path) s [] a n = absurd n
next_allowed S u before (p ∷ path) s (t ∷ ts) a n =
    let q : (t, get_or u t 0) ≡ p = ap (λ (x : ℕ). (x, get_or u t 0)) (sym n.0) ∙ ap (λ (x : ℕ). (p.0, x)) n.1 in
    let r : IsAllowed S ((before ++ p ∷ []) ++ path) s (get_or u s 0) = next_allowed S u (before ++ p ∷ []) path s ts (subst (λ (x : ℕ × ℕ). AllowedAlong S u (before ++ x ∷ []) ts) q a.1) n.2 in
    subst (λ (b : List (ℕ × ℕ)). IsAllowed S b s (get_or u s 0)) (append_assoc before (p ∷ []) path) r

abbrev pub AllZero : List ℕ → List ℕ → Type 0
AllZero w [] = Unit {0}
AllZero w (s ∷ ss) = (get_or w s 0 ≡ 0) × AllZero w ss

pub lacks_of : (fs : List ℕ) (t : ℕ) (rest : List ℕ) → Differ (fs ++ t ∷ rest) → Lacks fs t
lacks_of [] t rest d = tt
lacks_of (f ∷ fs) t rest d = (here fs t rest d.0, lacks_of fs t rest d.1)
  where
    here : (gs : List ℕ) (x : ℕ) (r : List ℕ) → Lacks (gs ++ x ∷ r) f → f ≡ x → ⊥
    here [] x r l e = l.0 (sym e)
    here (g ∷ gs) x r l e = here gs x r l.1 e

lacks_drop : (gs : List ℕ) (x : ℕ) (r : List ℕ) (f : ℕ) → Lacks (gs ++ x ∷ r) f → Lacks (gs ++ r) f
lacks_drop [] x r f l = l.1
lacks_drop (g ∷ gs) x r f l = (l.0, lacks_drop gs x r f l.1)

differ_drop : (fs : List ℕ) (t : ℕ) (rest : List ℕ) → Differ (fs ++ t ∷ rest) → Differ (fs ++ rest)
differ_drop [] t rest d = d.1
differ_drop (f ∷ fs) t rest d = (lacks_drop fs t rest f d.0, differ_drop fs t rest d.1)

below_drop : (n : ℕ) (fs : List ℕ) (t : ℕ) (rest : List ℕ) → AllBelow n (fs ++ t ∷ rest) → (t < n) × AllBelow n (fs ++ rest)
below_drop n [] t rest b = b
below_drop n (f ∷ fs) t rest b = let r = below_drop n fs t rest b.1 in (r.0, (b.0, r.1))

pub lacks_front : (fs rest : List ℕ) (t : ℕ) → Lacks (fs ++ rest) t → Lacks fs t
lacks_front [] rest t l = tt
lacks_front (f ∷ fs) rest t l = (l.0, lacks_front fs rest t l.1)

-- a vector that is 0 off some slots is 0 at those that follow them in an order
pub zero_rest : (n : ℕ) (w : List ℕ) (fs rest : List ℕ) → Differ (fs ++ rest) → AllBelow n (fs ++ rest) → ((s : ℕ) → s < n → Lacks fs s → get_or w s 0 ≡ 0) → AllZero w rest
zero_rest n w fs [] d b off = tt
zero_rest n w fs (t ∷ rest) d b off = let r = below_drop n fs t rest b in (off t r.0 (lacks_of fs t rest d), zero_rest n w fs rest (differ_drop fs t rest d) r.1 off)

-- 0 is always allowed
pub zero_allowed : (S : Space) → IsSpace S → (path : List (ℕ × ℕ)) (s : ℕ) → s < S.slots → IsAllowed S path s 0
zero_allowed S is path s h = go (S.object_at s 0) refl
  where
    go : (x : Option DomainObject) → S.object_at s 0 ≡ x → MayStand S path x
    go None e = tt
    go (Some o) e = inr (λ k lt. absurd (let r = (is.blocks s 0 o h (is.filled s h) e).room in omega arith))

pub zeros_allowed : (S : Space) → IsSpace S → (w : List ℕ) (path : List (ℕ × ℕ)) (rest : List ℕ) → AllBelow S.slots rest → AllZero w rest → AllowedAlong S w path rest
zeros_allowed S is w path [] b z = tt
zeros_allowed S is w path (s ∷ ss) b z = (rw z.0 (zero_allowed S is path s b.0), zeros_allowed S is w (path ++ (s, get_or w s 0) ∷ []) ss b.1 z.1)

-- a path's choices and then zeros are allowed
pub path_allowed : (S : Space) → IsSpace S → (w : List ℕ) (before path : List (ℕ × ℕ)) (rest : List ℕ) → AllowedPath S before path → OnPath w path → AllBelow S.slots rest → AllZero w rest → AllowedAlong S w before (slots_of path ++ rest)
path_allowed S is w before [] rest a o b z = zeros_allowed S is w before rest b z
path_allowed S is w before (p ∷ path) rest a o b z =
    (subst (λ (x : ℕ). IsAllowed S before p.0 x) (sym o.0) a.0, subst (λ (x : ℕ). AllowedAlong S w (before ++ (p.0, x) ∷ []) (slots_of path ++ rest)) (sym o.0) (path_allowed S is w (before ++ p ∷ []) path rest a.1 o.1 b z))

pub allowed_more : (S : Space) (before path : List (ℕ × ℕ)) (p : ℕ × ℕ) → AllowedPath S before path → IsAllowed S (before ++ path) p.0 p.1 → AllowedPath S before (path ++ p ∷ [])
allowed_more S before [] p a h = (subst (λ (b : List (ℕ × ℕ)). IsAllowed S b p.0 p.1) (append_nil before) h, tt)
  where
    append_nil : (xs : List (ℕ × ℕ)) → xs ++ [] ≡ xs
    append_nil [] = refl
    append_nil (x ∷ xs) = ap (λ (l : List (ℕ × ℕ)). x ∷ l) (append_nil xs)
allowed_more S before (q ∷ path) p a h = (a.0, allowed_more S (before ++ q ∷ []) path p a.1 (subst (λ (b : List (ℕ × ℕ)). IsAllowed S b p.0 p.1) (sym (append_assoc before (q ∷ []) path)) h))

pub allowed_front : (S : Space) (before path rest : List (ℕ × ℕ)) → AllowedPath S before (path ++ rest) → AllowedPath S before path
allowed_front S before [] rest a = tt
allowed_front S before (q ∷ path) rest a = (a.0, allowed_front S (before ++ q ∷ []) path rest a.1)

-- the key of a vector that goes on from a path
pub key_on : (w : List ℕ) (path : List (ℕ × ℕ)) (rest : List ℕ) → OnPath w path → key_along w (slots_of path ++ rest) ≡ indices_of path ++ key_along w rest
key_on w [] rest o = refl
key_on w (p ∷ path) rest o = ap (λ (x : ℕ). x ∷ key_along w (slots_of path ++ rest)) o.0 ∙ ap (λ (l : List ℕ). p.1 ∷ l) (key_on w path rest o.1)

pub before_append : (zs xs ys : List ℕ) → Before xs ys → Before (zs ++ xs) (zs ++ ys)
before_append [] xs ys b = b
before_append (z ∷ zs) xs ys b = inr (refl, before_append zs xs ys b)

pub before_tails : (zs xs ys : List ℕ) → Before (zs ++ xs) (zs ++ ys) → Before xs ys
before_tails [] xs ys b = b
before_tails (z ∷ zs) xs ys (inl h) = absurd (omega arith)
before_tails (z ∷ zs) xs ys (inr h) = before_tails zs xs ys h.1

-- of the vectors on a path, the one with zeros comes first
pub zeros_first : (w u : List ℕ) (Q : Type 0) (ws us : List ℕ) → Forks w u Q ws us → AllZero w ws → Before (key_along u us) (key_along w ws) → ⊥
zeros_first w u Q [] [] f z b = b
zeros_first w u Q [] (t ∷ ts) f z b = f
zeros_first w u Q (s ∷ ss) [] f z b = f
zeros_first w u Q (s ∷ ss) (t ∷ ts) f z (inl h) = let e = z.0 in omega arith
zeros_first w u Q (s ∷ ss) (t ∷ ts) f z (inr h) = zeros_first w u Q ss ts (f.1 (sym h.0 ∙ ap (λ (x : ℕ). get_or u x 0) (sym f.0))) z.1 h.1
