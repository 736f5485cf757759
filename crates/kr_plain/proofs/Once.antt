-- Each vector is once in the list of all vectors, so a step to the next leaves one fewer.
use Rattle.std.proofs.Common.{◌≡◌, ℕ, zero, suc, ◌+◌, ◌<◌, ◌≤◌, ◌⊎◌, inl, inr, List, [], ◌∷◌, ◌++◌, Bool, true, false, length, get_or, refl, sym, ap, ◌∙◌, subst, arith}
use Rattle.std.specs.Prelude.{drop, filter, map, if◌then◌else◌}
use Rattle.std.specs.List.{range_with_len}
use Rattle.std.proofs.lemmas.Bool.{cases_eq}
use Rattle.kr_base.specs.Cuts.{Before, is_before}
use Rattle.kr_mean.specs.Problem.{upto}
use Rattle.kr_mean.specs.Space.{Space, IsVector}
use Rattle.kr_mean.specs.Entries.{selections, vectors, with_each}
use Rattle.kr_laws_pruning.proofs.CutOrder.{before_not_self, before_trans, connected, is_before_no, is_before_yes, tested}
use Rattle.kr_laws_pruning.proofs.Membership.{Has, has_map_from, has_split, range_has}
use Rattle.kr_laws_pruning.proofs.Listed.{vectors_are}
use Rattle.kr_plain.specs.Plain.{Follows}
use Rattle.kr_plain.proofs.Gone.{left_over}

-- an element of a list at one place alone
abbrev pub Once : {A : Type 0} → A → List A → Type 0
Once x [] = ⊥
Once x (y ∷ ys) = ((y ≡ x) × (Has x ys → ⊥)) ⊎ ((y ≡ x → ⊥) × Once x ys)

once_left : {A : Type 0} (x : A) (xs ys : List A) → Once x xs → (Has x ys → ⊥) → Once x (xs ++ ys)
once_left x [] ys h n = absurd h
once_left x (z ∷ xs) ys (inl h) n = inl (h.0, λ m. elim (has_split x xs ys m) [ inl a ↦ h.1 a | inr b ↦ n b ])
once_left x (z ∷ xs) ys (inr h) n = inr (h.0, once_left x xs ys h.1 n)

once_right : {A : Type 0} (x : A) (xs ys : List A) → (Has x xs → ⊥) → Once x ys → Once x (xs ++ ys)
once_right x [] ys n h = h
once_right x (z ∷ xs) ys n h = inr (λ e. n (inl e), once_right x xs ys (λ m. n (inr m)) h)

tails : {x y : ℕ} {v w : List ℕ} → x ∷ v ≡ y ∷ w → v ≡ w
tails e = ap (λ l. drop 1 l) e

heads : {x y : ℕ} {v w : List ℕ} → x ∷ v ≡ y ∷ w → x ≡ y
heads {x} e = ap (λ l. get_or l 0 x) e

once_map : (x : ℕ) (w : List ℕ) (rs : List (List ℕ)) → Once w rs → Once (x ∷ w) (map (λ r. x ∷ r) rs)
once_map x w [] h = absurd h
once_map x w (r ∷ rs) (inl h) = inl (ap (λ l. x ∷ l) h.0, λ m. let f = has_map_from (λ (q : List ℕ). x ∷ q) (x ∷ w) rs m in h.1 (subst (λ l. Has l rs) (tails f.2) f.1))
once_map x w (r ∷ rs) (inr h) = inr (λ e. h.0 (tails e), once_map x w rs h.1)

-- a selection's first element is of the first list
each_has : (x : ℕ) (w xs : List ℕ) (rests : List (List ℕ)) → Has (x ∷ w) (with_each xs rests) → Has x xs
each_has x w [] rests h = absurd h
each_has x w (y ∷ ys) rests h =
    elim (has_split (x ∷ w) (map (λ (q : List ℕ). y ∷ q) rests) (with_each ys rests) h) [ inl a ↦ inl (heads (has_map_from (λ (q : List ℕ). y ∷ q) (x ∷ w) rests a).2) | inr b ↦ inr (each_has x w ys rests b) ]

once_each : (x : ℕ) (w xs : List ℕ) (rests : List (List ℕ)) → Once x xs → Once w rests → Once (x ∷ w) (with_each xs rests)
once_each x w [] rests h k = absurd h
once_each x w (y ∷ ys) rests (inl h) k =
    subst (λ (z : ℕ). Once (x ∷ w) (map (λ r. z ∷ r) rests ++ with_each ys rests)) (sym h.0) (once_left (x ∷ w) (map (λ r. x ∷ r) rests) (with_each ys rests) (once_map x w rests k) (λ m. h.1 (each_has x w ys rests m)))
once_each x w (y ∷ ys) rests (inr h) k =
    once_right (x ∷ w) (map (λ r. y ∷ r) rests) (with_each ys rests) (λ m. h.0 (heads (has_map_from (λ (q : List ℕ). y ∷ q) (x ∷ w) rests m).2)) (once_each x w ys rests h.1 k)

once_range : (a n x : ℕ) → a ≤ x → x < a + n → Once x (range_with_len a n)
once_range a zero x l h = absurd (omega arith)
once_range a (suc n) x l h =
    elim (cases_eq a x) [ inl e ↦ inl (e, λ m. let r = range_has (a + 1) n x m in absurd (omega (arith, r.0, e))) | inr ne ↦ inr (ne, once_range (a + 1) n x (grind arith) (omega arith)) ]

once_selected : (f : ℕ → ℕ) (a n : ℕ) (v : List ℕ) → length v ≡ n → ((k : ℕ) → k < n → get_or v k 0 < f (a + k)) → Once v (selections (map (λ s. upto (f s)) (range_with_len a n)))
once_selected f a zero [] e h = inl (refl, λ m. absurd m)
once_selected f a zero (x ∷ v) e h = absurd (omega arith)
once_selected f a (suc n) [] e h = absurd (omega arith)
once_selected f a (suc n) (x ∷ v) e h =
    let q : x < f (a + 0) = h 0 (omega arith) in
    let p : a + 0 ≡ a = omega arith in
    once_each x v (upto (f a)) (selections (map (λ s. upto (f s)) (range_with_len (a + 1) n)))
    (once_range 0 (f a) x (omega arith) (let r : x < f a = subst (λ (y : ℕ). x < f y) p q in omega (arith, r)))
    (once_selected f (a + 1) n v (omega arith) (λ k l. subst (λ (y : ℕ). get_or v k 0 < f y) (shift a k) (h (suc k) (omega arith))))
  where
    shift : (m k : ℕ) → m + suc k ≡ (m + 1) + k
    shift m k = omega arith

pub vectors_once : (S : Space) (v : List ℕ) → IsVector S v → Once v (vectors S)
vectors_once S v iv = once_selected S.size 0 S.slots v iv.long (λ k l. let e : 0 + k ≡ k = omega arith in rw e (iv.within k l))

-- ---- counts

all_pass : {A : Type 0} (p : A → Bool) (xs : List A) → ((u : A) → p u ≡ true) → length (filter p xs) ≡ length xs
all_pass p [] h = refl
all_pass p (x ∷ xs) h = rw (h x) (ap suc (all_pass p xs h))

none_passes : {A : Type 0} (p : A → Bool) (xs : List A) → ((u : A) → Has u xs → p u ≡ false) → length (filter p xs) ≡ 0
none_passes p [] h = refl
none_passes p (x ∷ xs) h = rw (h x (inl refl)) (none_passes p xs (λ u m. h u (inr m)))

alike : {A : Type 0} (p q : A → Bool) (xs : List A) → ((u : A) → Has u xs → p u ≡ q u) → length (filter p xs) ≡ length (filter q xs)
alike p q [] h = refl
alike {A} p q (x ∷ xs) h = rw (h x (inl refl)) (go (q x) (alike p q xs (λ u m. h u (inr m))))
  where
    go : (t : Bool) → length (filter p xs) ≡ length (filter q xs) → length (if t then x ∷ filter p xs else filter p xs) ≡ length (if t then x ∷ filter q xs else filter q xs)
    go true r = ap suc r
    go false r = r

-- two tests that differ at one element of a list alone
one_more : {A : Type 0} (p q : A → Bool) (w : A) (xs : List A) → ((u : A) → Has u xs → (u ≡ w → ⊥) → p u ≡ q u) → p w ≡ true → q w ≡ false → Once w xs → length (filter p xs) ≡ length (filter q xs) + 1
one_more p q w [] h holds fails o = absurd o
one_more {A} p q w (x ∷ xs) h holds fails (inl o) =
    let y : p x ≡ true = ap p o.0 ∙ holds in
    let n : q x ≡ false = ap q o.0 ∙ fails in
    let r : length (filter p xs) ≡ length (filter q xs) = alike p q xs (λ u m. h u (inr m) (λ e. o.1 (subst (λ (a : A). Has a xs) e m))) in
    rw (y, n) (omega (arith, r))
one_more {A} p q w (x ∷ xs) h holds fails (inr o) = rw (h x (inl refl) o.0) (go (q x) (one_more p q w xs (λ u m. h u (inr m)) holds fails o.1))
  where
    go : (t : Bool) → length (filter p xs) ≡ length (filter q xs) + 1 → length (if t then x ∷ filter p xs else filter p xs) ≡ length (if t then x ∷ filter q xs else filter q xs) + 1
    go true r = omega (arith, r)
    go false r = r

pub one_fewer : (S : Space) (v : List ℕ) (more : Bool) (w : List ℕ) → Follows S v more w → left_over S more w + 1 ≡ left_over S true v
one_fewer S v false w f =
    let n = none_passes (λ u. is_before v u) (vectors S) (λ u m. is_before_no v u (f u (vectors_are S u m))) in
    omega (arith, n)
one_fewer S v true w f =
    let l = one_more (λ u. is_before v u) (λ u. is_before w u) w (vectors S) same (is_before_yes v w f.1) (is_before_no w w (before_not_self w)) (vectors_once S w f.0) in
    omega (arith, l)
  where
    same : (u : List ℕ) → Has u (vectors S) → (u ≡ w → ⊥) → is_before v u ≡ is_before w u
    same u m ne = elim (tested w u) [
      | inl a ↦ is_before_yes v u (before_trans v w u f.1 a.0) ∙ sym a.1
      | inr a ↦ is_before_no v u (λ b. f.2 u (vectors_are S u m) b (below u a.0 ne)) ∙ sym a.1
    ]
      where
        below : (u : List ℕ) → (Before w u → ⊥) → (u ≡ w → ⊥) → Before u w
        below u n ne = elim (tested u w) [ inl a ↦ a.0 | inr a ↦ absurd (ne (connected u w a.0 n)) ]

-- all are left where no vector is before the first
pub all_left : (S : Space) (v : List ℕ) → IsVector S v → ((u : List ℕ) → IsVector S u → Before u v → ⊥) → left_over S true v ≡ length (vectors S)
all_left S v iv first =
    let l = one_more (λ (u : List ℕ). true) (λ u. is_before v u) v (vectors S) (λ u m ne. sym (is_before_yes v u (above u (vectors_are S u m) ne))) refl (is_before_no v v (before_not_self v)) (vectors_once S v iv) in
    let a = all_pass (λ (u : List ℕ). true) (vectors S) (λ u. refl) in
    omega (arith, l, a)
  where
    above : (u : List ℕ) → IsVector S u → (u ≡ v → ⊥) → Before v u
    above u is ne = elim (tested v u) [ inl a ↦ a.0 | inr a ↦ absurd (ne (connected u v (first u is) a.0)) ]
