-- A segment is found at its place.
use Rattle.std.specs.Result.{is_ok}
use Rattle.std.proofs.Common.{Result, Ok, Err, IsOk, ◌≡◌, ℕ, suc, ◌+◌, ◌<◌, ◌≤◌, List, [], ◌∷◌, Bool, true, false, ◌==◌, length, drop, refl, sym, ap, ◌∙◌, arith, Some, None, cond, insert, get_or, set, subst, take, add-one, drop-cons, length-drop}
use Rattle.std.proofs.lemmas.Bool.Decides.{nat_tests}
use Rattle.kr_core.specs.States.{segment_of, place_of, change}
use Rattle.kr_core.specs.declared.segment.Segment.{Segment}

-- of a list whose first is another
pub place_of-next : (n : ℕ) (s : Segment) (ss : List Segment) → (s.number == n) ≡ false → place_of n (s ∷ ss) ≡ suc (place_of n ss)
place_of-next n s ss h = ap (λ (b : Bool). cond b 0 (suc (place_of n ss))) h

pub segment_of_none : (n : ℕ) (ss : List Segment) → place_of n ss ≡ length ss → segment_of n ss ≡ None
segment_of_none n [] h = refl
segment_of_none n (s ∷ ss) h =
    elim (s.number == n) as (λ b. cond b 0 (suc (place_of n ss)) ≡ suc (length ss) → cond b (Some s) (segment_of n ss) ≡ None) [
      | true ↦ λ q. absurd (omega (arith, q))
      | false ↦ λ q. segment_of_none n ss (omega (arith, q))
    ] h

-- what is at the place is what is found
pub segment_of_at : (n : ℕ) (ss : List Segment) (d : Segment) → place_of n ss < length ss → segment_of n ss ≡ Some (get_or ss (place_of n ss) d)
segment_of_at n [] d h = absurd (omega arith)
segment_of_at n (s ∷ ss) d h =
    elim (s.number == n) as (λ b. cond b 0 (suc (place_of n ss)) < suc (length ss) → cond b (Some s) (segment_of n ss) ≡ Some (get_or (s ∷ ss) (cond b 0 (suc (place_of n ss))) d)) [
      | true ↦ λ q. refl
      | false ↦ λ q. segment_of_at n ss d (omega (arith, q))
    ] h

-- a change of the one segment is a write at its place
pub change_at : (n : ℕ) (ss : List Segment) (f : Segment → Segment) (d : Segment) → place_of n ss < length ss
    → change n (λ s rest. f s ∷ rest) ss ≡ set ss (place_of n ss) (f (get_or ss (place_of n ss) d))
change_at n [] f d h = absurd (omega arith)
change_at n (s ∷ ss) f d h =
    elim (s.number == n) as (λ b. cond b 0 (suc (place_of n ss)) < suc (length ss)
    → cond b (f s ∷ ss) (s ∷ change n (λ s rest. f s ∷ rest) ss) ≡ set (s ∷ ss) (cond b 0 (suc (place_of n ss))) (f (get_or (s ∷ ss) (cond b 0 (suc (place_of n ss))) d))) [
      | true ↦ λ q. refl
      | false ↦ λ q. ap (λ (xs : List Segment). s ∷ xs) (change_at n ss f d (omega (arith, q)))
    ] h

not-eq : (a b : ℕ) → (a ≡ b → ⊥) → (a == b) ≡ false
not-eq a b h = grind (arith, nat_tests)

place_of-le : (n : ℕ) (ss : List Segment) → place_of n ss ≤ length ss
place_of-le n [] = omega arith
place_of-le n (s ∷ ss) = elim (s.number == n) as (λ b. cond b 0 (suc (place_of n ss)) ≤ suc (length ss)) [ true ↦ omega arith | false ↦ omega (arith, place_of-le n ss) ]

-- one more that has another number
pub place_step : (n i p : ℕ) (ss : List Segment) (s : Segment) → i < length ss → s ≡ get_or ss i s → (s.number ≡ n → ⊥) → p ≡ i + place_of n (drop i ss) → p ≡ i + 1 + place_of n (drop (i + 1) ss)
place_step n i p ss s h is other before =
    let cons : drop i ss ≡ s ∷ drop (suc i) ss = drop-cons ss i s h ∙ ap (λ (x : Segment). x ∷ drop (suc i) ss) (sym is) in
    let next : place_of n (drop i ss) ≡ suc (place_of n (drop (suc i) ss)) = ap (place_of n) cons ∙ place_of-next n s (drop (suc i) ss) (not-eq s.number n other) in
    rw add-one (omega (arith, next, before))

pub place_nowhere : (n i : ℕ) (ss : List Segment) → length ss ≤ i → i ≤ length ss → place_of n ss ≡ i + place_of n (drop i ss) → segment_of n ss ≡ None
place_nowhere n i ss past within before =
    segment_of_none n ss (omega (arith, before, place_of-le n (drop i ss), length-drop i ss))

-- where there is none of that number, nothing is changed
pub change_none : (n : ℕ) (ss : List Segment) (f : Segment → List Segment → List Segment) → segment_of n ss ≡ None → change n f ss ≡ ss
change_none n [] f h = refl
change_none n (s ∷ ss) f h =
    elim (s.number == n) as (λ b. cond b (Some s) (segment_of n ss) ≡ None → cond b (f s ss) (s ∷ change n f ss) ≡ s ∷ ss) [
      | true ↦ λ q. absurd (cc (q))
      | false ↦ λ q. ap (λ (xs : List Segment). s ∷ xs) (change_none n ss f q)
    ] h

-- what is found where one was changed that keeps its number
pub segment_of_change : (n : ℕ) (ss : List Segment) (f : Segment → Segment) (s : Segment) → ((t : Segment) → (f t).number ≡ t.number) → segment_of n ss ≡ Some s
    → segment_of n (change n (λ t rest. f t ∷ rest) ss) ≡ Some (f s)
segment_of_change n [] f s keeps h = absurd (cc (h))
segment_of_change n (t ∷ ss) f s keeps h =
    elim (t.number == n) as (λ b. (t.number == n) ≡ b → cond b (Some t) (segment_of n ss) ≡ Some s → segment_of n (cond b (f t ∷ ss) (t ∷ change n (λ u rest. f u ∷ rest) ss)) ≡ Some (f s)) [
      | true ↦ λ e q. ap (λ (b : Bool). cond b (Some (f t)) (segment_of n ss)) (ap (λ (m : ℕ). m == n) (keeps t) ∙ e) ∙ ap (λ (u : Segment). Some (f u)) (cc (q))
      | false ↦ λ e q. ap (λ (b : Bool). cond b (Some t) (segment_of n (change n (λ u rest. f u ∷ rest) ss))) e ∙ segment_of_change n ss f s keeps q
    ] refl h

pub slice_write : (n i : ℕ) (ss : List Segment) (f : Segment → Segment) (s : Segment) → i ≡ place_of n ss → i < length ss → s ≡ get_or ss i s
    → set ss i (f s) ≡ change n (λ t rest. f t ∷ rest) ss
slice_write n i ss f s at within is =
    let here : place_of n ss < length ss = omega (arith, at, within) in
    let same : s ≡ get_or ss (place_of n ss) s = is ∙ ap (λ (k : ℕ). get_or ss k s) at in
    ap (λ (k : ℕ). set ss k (f s)) at ∙ (ap (λ (t : Segment). set ss (place_of n ss) (f t)) same ∙ sym (change_at n ss f s here))

pub found_at : (n i : ℕ) (ss : List Segment) (s : Segment) → i ≡ place_of n ss → i < length ss → s ≡ get_or ss i s → segment_of n ss ≡ Some s
found_at n i ss s at within is =
    let here : place_of n ss < length ss = omega (arith, at, within) in
    segment_of_at n ss s here ∙ ap (λ (t : Segment). Some t) (ap (λ (k : ℕ). get_or ss k s) (sym at) ∙ sym is)

-- the same, where what is written is equal to what the change makes
pub slice_write_as : (n i : ℕ) (ss : List Segment) (f : Segment → Segment) (s w : Segment) → i ≡ place_of n ss → i < length ss → s ≡ get_or ss i s → w ≡ f s
    → set ss i w ≡ change n (λ t rest. f t ∷ rest) ss
slice_write_as n i ss f s w at within is same = ap (λ (t : Segment). set ss i t) same ∙ slice_write n i ss f s at within is

-- a change that drops those after it
pub cut_at_place : (n : ℕ) (ss : List Segment) (f : Segment → Segment) (d : Segment) → place_of n ss < length ss
    → change n (λ s rest. f s ∷ []) ss ≡ set (take (suc (place_of n ss)) ss) (place_of n ss) (f (get_or (take (suc (place_of n ss)) ss) (place_of n ss) d))
cut_at_place n [] f d h = absurd (omega arith)
cut_at_place n (s ∷ ss) f d h =
    elim (s.number == n) as (λ b. cond b 0 (suc (place_of n ss)) < suc (length ss)
    → cond b (f s ∷ []) (s ∷ change n (λ t rest. f t ∷ []) ss)
    ≡ set (take (suc (cond b 0 (suc (place_of n ss)))) (s ∷ ss)) (cond b 0 (suc (place_of n ss))) (f (get_or (take (suc (cond b 0 (suc (place_of n ss)))) (s ∷ ss)) (cond b 0 (suc (place_of n ss))) d))) [
      | true ↦ λ q. refl
      | false ↦ λ q. ap (λ (xs : List Segment). s ∷ xs) (cut_at_place n ss f d (omega (arith, q)))
    ] h

pub cut_write_as : (n i : ℕ) (ss short : List Segment) (f : Segment → Segment) (s w : Segment) → i ≡ place_of n ss → i < length ss → short ≡ take (i + 1) ss → s ≡ get_or short i s → w ≡ f s
    → set short i w ≡ change n (λ t rest. f t ∷ []) ss
cut_write_as n i ss short f s w at within cut is same =
    let here : place_of n ss < length ss = omega (arith, at, within) in
    let short' : short ≡ take (suc i) ss = rw (← add-one) cut in
    let F : ℕ → Type 0 = λ k. set (take (suc k) ss) k (f (get_or (take (suc k) ss) k s)) ≡ change n (λ t rest. f t ∷ []) ss in
    let there = subst F (sym at) (sym (cut_at_place n ss f s here)) in
    let what : w ≡ f (get_or (take (suc i) ss) i s) = same ∙ ap f (is ∙ ap (λ (xs : List Segment). get_or xs i s) short') in
    ap (λ (xs : List Segment). set xs i w) short' ∙ (ap (λ (t : Segment). set (take (suc i) ss) i t) what ∙ there)

pub segment_of_cut : (n : ℕ) (ss : List Segment) (f : Segment → Segment) (s : Segment) → ((t : Segment) → (f t).number ≡ t.number) → segment_of n ss ≡ Some s
    → segment_of n (change n (λ t rest. f t ∷ []) ss) ≡ Some (f s)
segment_of_cut n [] f s keeps h = absurd (cc (h))
segment_of_cut n (t ∷ ss) f s keeps h =
    elim (t.number == n) as (λ b. (t.number == n) ≡ b → cond b (Some t) (segment_of n ss) ≡ Some s → segment_of n (cond b (f t ∷ []) (t ∷ change n (λ u rest. f u ∷ []) ss)) ≡ Some (f s)) [
      | true ↦ λ e q. ap (λ (b : Bool). cond b (Some (f t)) None) (ap (λ (m : ℕ). m == n) (keeps t) ∙ e) ∙ ap (λ (u : Segment). Some (f u)) (cc (q))
      | false ↦ λ e q. ap (λ (b : Bool). cond b (Some t) (segment_of n (change n (λ u rest. f u ∷ []) ss))) e ∙ segment_of_cut n ss f s keeps q
    ] refl h

-- a change that puts one more after it
pub split_at_place : (n : ℕ) (ss : List Segment) (f g : Segment → Segment) (d : Segment) → place_of n ss < length ss
    → change n (λ s rest. f s ∷ (g s ∷ rest)) ss ≡ insert (set ss (place_of n ss) (f (get_or ss (place_of n ss) d))) (suc (place_of n ss)) (g (get_or ss (place_of n ss) d))
split_at_place n [] f g d h = absurd (omega arith)
split_at_place n (s ∷ ss) f g d h =
    elim (s.number == n) as (λ b. cond b 0 (suc (place_of n ss)) < suc (length ss)
    → cond b (f s ∷ (g s ∷ ss)) (s ∷ change n (λ t rest. f t ∷ (g t ∷ rest)) ss)
    ≡ insert (set (s ∷ ss) (cond b 0 (suc (place_of n ss))) (f (get_or (s ∷ ss) (cond b 0 (suc (place_of n ss))) d))) (suc (cond b 0 (suc (place_of n ss)))) (g (get_or (s ∷ ss) (cond b 0 (suc (place_of n ss))) d))) [
      | true ↦ λ q. refl
      | false ↦ λ q. ap (λ (xs : List Segment). s ∷ xs) (split_at_place n ss f g d (omega (arith, q)))
    ] h

pub split_write : (n i : ℕ) (ss cut new : List Segment) (f g : Segment → Segment) (s w x : Segment) → i ≡ place_of n ss → i < length ss → s ≡ get_or ss i s → w ≡ f s → x ≡ g s → cut ≡ set ss i w → new ≡ insert cut (i + 1) x
    → new ≡ change n (λ t rest. f t ∷ (g t ∷ rest)) ss
split_write n i ss cut new f g s w x at within is wf xg c h =
    let here : place_of n ss < length ss = omega (arith, at, within) in
    let F : ℕ → Type 0 = λ k. change n (λ t rest. f t ∷ (g t ∷ rest)) ss ≡ insert (set ss k (f (get_or ss k s))) (suc k) (g (get_or ss k s)) in
    let there = subst F (sym at) (split_at_place n ss f g s here) in
    let wf' : w ≡ f (get_or ss i s) = wf ∙ ap f is in
    let xg' : x ≡ g (get_or ss i s) = xg ∙ ap g is in
    let h' : new ≡ insert cut (suc i) x = rw (← add-one) h in
    h' ∙ (ap (λ (ys : List Segment). insert ys (suc i) x) (c ∙ ap (λ (t : Segment). set ss i t) wf') ∙ (ap (λ (t : Segment). insert (set ss i (f (get_or ss i s))) (suc i) t) xg' ∙ sym there))

pub inserted : {A E X : Type 0} (r : Result A E) (new a b : X) → new ≡ cond (is_ok r) a b → IsOk r → new ≡ a
inserted (Ok x) new a b h ok = h
inserted (Err e) new a b h ok = absurd (cc (ok))
