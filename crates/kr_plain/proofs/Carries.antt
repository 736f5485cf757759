-- Vectors counted through: after a slot all are at their last index, and go back to 0.
use Rattle.std.proofs.Common.{◌≡◌, ℕ, zero, suc, ◌+◌, ◌<◌, ◌≤◌, ◌⊎◌, inl, inr, List, [], ◌∷◌, length, get_or, set, refl, sym, ap, ◌∙◌, subst, arith, true, false}
use Rattle.std.proofs.lemmas.Bool.{cases_eq}
use Rattle.std.proofs.lemmas.List.{get_or-set_same, get_or-set_other}
use Rattle.kr_base.specs.Cuts.{Before}
use Rattle.kr_mean.specs.Space.{Space, IsVector}
use Rattle.kr_plain.specs.Plain.{Follows}

-- c is v, but that it is 0 at the slots from k on, at which v has the last index
pub record Cleared (S : Space) (v : List ℕ) (k : ℕ) (c : List ℕ) : Type 0 where
  pub start : IsVector S v
  pub within : k ≤ S.slots
  pub long : length c ≡ S.slots
  pub same : (i : ℕ) → i < k → get_or c i 0 ≡ get_or v i 0
  pub cleared : (i : ℕ) → k ≤ i → get_or c i 0 ≡ 0
  pub last : (i : ℕ) → k ≤ i → i < S.slots → get_or v i 0 + 1 ≡ S.size i

beyond : (xs : List ℕ) (i d : ℕ) → length xs ≤ i → get_or xs i d ≡ d
beyond [] i d h = refl
beyond (x ∷ xs) zero d h = absurd (omega arith)
beyond (x ∷ xs) (suc i) d h = beyond xs i d (omega arith)

pub begins : (S : Space) (v : List ℕ) → IsVector S v → Cleared S v S.slots v
begins S v is = record {
  start = is;
  within = omega arith;
  long = is.long;
  same = λ i h. refl;
  cleared = λ i h. beyond v i 0 (omega (arith, is.long));
  last = λ i h h'. absurd (omega arith);
}

pub within_size : (S : Space) (v c : List ℕ) (k : ℕ) → Cleared S v (k + 1) c → get_or c k 0 < S.size k
within_size S v c k is = let s = is.same k (omega arith) in let l = is.within in let t = is.start.within k (omega (arith, l)) in omega (arith, s, t)

-- where two lists differ first
pub record Differs (u v : List ℕ) : Type 0 where
  pub at : ℕ
  pub inside : at < length v
  pub before : (i : ℕ) → i < at → get_or u i 0 ≡ get_or v i 0
  pub less : get_or u at 0 < get_or v at 0

differ_more : (x y : ℕ) (u v : List ℕ) → x ≡ y → Differs u v → Differs (x ∷ u) (y ∷ v)
differ_more x y u v e d = record {
  at = suc d.at;
  inside = let h = d.inside in omega arith;
  before = go;
  less = d.less;
}
  where
    go : (i : ℕ) → i < suc d.at → get_or (x ∷ u) i 0 ≡ get_or (y ∷ v) i 0
    go zero h = e
    go (suc i) h = d.before i (omega arith)

pub differ_first : (u v : List ℕ) → length u ≡ length v → Before u v → Differs u v
differ_first [] [] e b = absurd b
differ_first [] (y ∷ v) e b = absurd (omega (arith, e))
differ_first (x ∷ u) [] e b = absurd b
differ_first (x ∷ u) (y ∷ v) e (inl h) = record { at = 0; inside = omega arith; before = λ i l. absurd (omega arith); less = h }
differ_first (x ∷ u) (y ∷ v) e (inr h) = differ_more x y u v h.0 (differ_first u v (omega (arith, e)) h.1)

pub first_differ : (u v : List ℕ) (k : ℕ) → k < length u → k < length v → ((i : ℕ) → i < k → get_or u i 0 ≡ get_or v i 0) → get_or u k 0 < get_or v k 0 → Before u v
first_differ [] v k h h' same less = absurd (omega (arith, h))
first_differ (x ∷ u) [] k h h' same less = absurd (omega (arith, h'))
first_differ (x ∷ u) (y ∷ v) zero h h' same less = inl less
first_differ (x ∷ u) (y ∷ v) (suc k) h h' same less = inr (same 0 (omega arith), first_differ u v k (omega (arith, h)) (omega (arith, h')) (λ i l. same (suc i) (omega (arith, l))) less)

three : (a b : ℕ) → (a < b) ⊎ ((a ≡ b) ⊎ (b < a))
three a b = grind arith

module _ (S : Space) (v c : List ℕ) (k : ℕ) (h : k < S.slots) (is : Cleared S v (k + 1) c) where
  -- no greater index: the slot is cleared too
  pub goes_back : S.size k ≤ get_or c k 0 + 1 → Cleared S v k (set c k 0)
  goes_back full = record {
    start = is.start;
    within = omega (arith, h);
    long = length_set c k 0 ∙ is.long;
    same = λ i l. get_or-set_other c k i 0 0 (λ e. omega (arith, e, l)) ∙ is.same i (omega arith);
    cleared = λ i l. go i l (cases_eq i k);
    last = λ i l l'. last i l l' (cases_eq i k);
  }
    where
      length_set : (xs : List ℕ) (i y : ℕ) → length (set xs i y) ≡ length xs
      length_set [] i y = refl
      length_set (x ∷ xs) zero y = refl
      length_set (x ∷ xs) (suc i) y = ap suc (length_set xs i y)

      go : (i : ℕ) → k ≤ i → (i ≡ k) ⊎ (i ≡ k → ⊥) → get_or (set c k 0) i 0 ≡ 0
      go i l (inl e) = subst (λ (j : ℕ). get_or (set c k 0) j 0 ≡ 0) (sym e) (get_or-set_same c k 0 0 (omega (arith, h, is.long)))
      go i l (inr n) = get_or-set_other c k i 0 0 n ∙ is.cleared i (omega (arith, l, n))

      last : (i : ℕ) → k ≤ i → i < S.slots → (i ≡ k) ⊎ (i ≡ k → ⊥) → get_or v i 0 + 1 ≡ S.size i
      last i l l' (inl e) = subst (λ (j : ℕ). get_or v j 0 + 1 ≡ S.size j) (sym e) (let s = is.same k (omega arith) in let w = is.start.within k h in omega (arith, full, s, w))
      last i l l' (inr n) = is.last i (omega (arith, l, n)) l'

  -- a greater index: the next vector
  pub goes_on : (x : ℕ) → x ≡ get_or c k 0 + 1 → x < S.size k → Follows S v true (set c k x)
  goes_on x ex room = (vector, later, nothing)
    where
      set_length : (xs : List ℕ) (i y : ℕ) → length (set xs i y) ≡ length xs
      set_length [] i y = refl
      set_length (x ∷ xs) zero y = refl
      set_length (x ∷ xs) (suc i) y = ap suc (set_length xs i y)

      w : List ℕ
      w = set c k x

      here : get_or w k 0 ≡ x
      here = get_or-set_same c k x 0 (omega (arith, h, is.long))

      other : (i : ℕ) → (i ≡ k → ⊥) → get_or w i 0 ≡ get_or c i 0
      other i n = get_or-set_other c k i x 0 n

      was : get_or c k 0 ≡ get_or v k 0
      was = is.same k (omega arith)

      low : (i : ℕ) → i < k → get_or w i 0 ≡ get_or v i 0
      low i l = other i (λ e. omega (arith, e, l)) ∙ is.same i (omega (arith, l))

      high : (i : ℕ) → k < i → get_or w i 0 ≡ 0
      high i l = other i (λ e. omega (arith, e, l)) ∙ is.cleared i (omega (arith, l))

      inside : (i : ℕ) → i < S.slots → (i < k) ⊎ ((i ≡ k) ⊎ (k < i)) → get_or w i 0 < S.size i
      inside i l (inl a) = let s = low i a in let t = is.start.within i l in omega (arith, s, t)
      inside i l (inr (inl e)) = subst (λ (j : ℕ). get_or w j 0 < S.size j) (sym e) (omega (arith, here, room))
      inside i l (inr (inr a)) = let s = high i a in let t = is.start.within i l in omega (arith, s, t)

      vector : IsVector S w
      vector = record { long = set_length c k x ∙ is.long; within = λ i l. inside i l (three i k) }

      later : Before v w
      later = first_differ v w k (let e = is.start.long in omega (arith, e, h)) (let e = vector.long in omega (arith, e, h)) (λ i l. sym (low i l)) (omega (arith, here, ex, was))

      between : (u : List ℕ) → IsVector S u → (d : Differs v u) → (f : Differs u w) → (d.at < k) ⊎ ((d.at ≡ k) ⊎ (k < d.at)) → (f.at < d.at) ⊎ ((f.at ≡ d.at) ⊎ (d.at < f.at)) → (f.at < k) ⊎ ((f.at ≡ k) ⊎ (k < f.at)) → ⊥
      between u iu d f (inr (inr a)) y z =
          let i : d.at < S.slots = (let l = d.inside in let e = iu.long in omega (arith, l, e)) in
          let full = is.last d.at (omega (arith, a)) i in
          let t = iu.within d.at i in let less = d.less in omega (arith, full, t, less)
      between u iu d f (inl a) (inl b) z = let s = d.before f.at b in let t = low f.at (omega (arith, a, b)) in let less = f.less in omega (arith, s, t, less)
      between u iu d f (inl a) (inr (inl b)) z =
          let t = low d.at a in let less = d.less in let more : get_or u d.at 0 < get_or w d.at 0 = subst (λ (j : ℕ). get_or u j 0 < get_or w j 0) b f.less in omega (arith, t, less, more)
      between u iu d f (inl a) (inr (inr b)) z = let s = f.before d.at b in let t = low d.at a in let less = d.less in omega (arith, s, t, less)
      between u iu d f (inr (inl e)) y (inl a) = let s = d.before f.at (omega (arith, a, e)) in let t = low f.at a in let less = f.less in omega (arith, s, t, less)
      between u iu d f (inr (inl e)) y (inr (inl a)) =
          let less : get_or v k 0 < get_or u k 0 = subst (λ (j : ℕ). get_or v j 0 < get_or u j 0) e d.less in
          let more : get_or u k 0 < get_or w k 0 = subst (λ (j : ℕ). get_or u j 0 < get_or w j 0) a f.less in
          omega (arith, less, more, here, ex, was)
      between u iu d f (inr (inl e)) y (inr (inr a)) = let t = high f.at a in let more = f.less in omega (arith, t, more)

      nothing : (u : List ℕ) → IsVector S u → Before v u → Before u w → ⊥
      nothing u iu b b' =
          let d = differ_first v u (let e = is.start.long in let e' = iu.long in omega (arith, e, e')) b in
          let f = differ_first u w (let e = vector.long in let e' = iu.long in omega (arith, e, e')) b' in
          between u iu d f (three d.at k) (three f.at d.at) (three f.at k)

-- all are at their last index: there is no other
pub ends : (S : Space) (v c : List ℕ) → Cleared S v 0 c → Follows S v false c
ends S v c is u iu b =
    let d = differ_first v u (let e = is.start.long in let e' = iu.long in omega (arith, e, e')) b in
    let i : d.at < S.slots = (let l = d.inside in let e = iu.long in omega (arith, l, e)) in
    let full = is.last d.at (omega arith) i in
    let t = iu.within d.at i in
    let less = d.less in
    omega (arith, full, t, less)
