-- Two lists of slots that go the same way, up to names, as long as their vectors agree.
use Rattle.std.proofs.Common.{◌≡◌, ℕ, ◌⊎◌, inl, inr, Bool, true, false, List, [], ◌∷◌, ◌++◌, refl, sym, ap, ◌∙◌, subst}
use Rattle.std.specs.Prelude.{map, filter, not, ◌==◌, if◌then◌else◌}
use Rattle.std.proofs.lemmas.List.Elements.{filter-append}
use Rattle.std.proofs.lemmas.Bool.{eq-eqb, eqb-true, cases_Bool}
use Rattle.kr_mean.specs.Heaps.{distinct}
use Rattle.kr_laws_pruning.proofs.Membership.{Has}
use Rattle.kr_laws_runs.proofs.Respects.{AllOf}

-- The next slot is the same, up to names, and known, as long as the two agree on those before; where they agree to the
-- end, `same` holds.
abbrev pub SlotForks : (ℕ → ℕ) → (ℕ → Type 0) → (ℕ → Type 0) → Type 0 → List ℕ → List ℕ → Type 0
SlotForks on K A same [] [] = same
SlotForks on K A same [] (t ∷ ts) = ⊥
SlotForks on K A same (s ∷ ss) [] = ⊥
SlotForks on K A same (s ∷ ss) (t ∷ ts) = (t ≡ on s) × K s × (A s → SlotForks on K A same ss ts)

pub all_map : {X : Type 0} (P Q : X → Type 0) (xs : List X) → ((x : X) → P x → Q x) → AllOf P xs → AllOf Q xs
all_map P Q [] f h = tt
all_map P Q (x ∷ xs) f h = (f x h.0, all_map P Q xs f h.1)

pub all_append : {X : Type 0} (P : X → Type 0) (xs ys : List X) → AllOf P xs → AllOf P ys → AllOf P (xs ++ ys)
all_append P [] ys h k = k
all_append P (x ∷ xs) ys h k = (h.0, all_append P xs ys h.1 k)

pub all_filter : {X : Type 0} (P : X → Type 0) (p : X → Bool) (xs : List X) → AllOf P xs → AllOf P (filter p xs)
all_filter P p [] h = tt
all_filter P p (x ∷ xs) h = go (p x) (all_filter P p xs h.1)
  where
    go : (b : Bool) → AllOf P (filter p xs) → AllOf P (if b then x ∷ filter p xs else filter p xs)
    go true r = (h.0, r)
    go false r = r

pub all_distinct : {X : Type 0} (P : X → Type 0) (same : X → X → Bool) (xs : List X) → AllOf P xs → AllOf P (distinct same xs)
all_distinct P same [] h = tt
all_distinct P same (x ∷ xs) h = (h.0, all_filter P (λ y. not (same x y)) (distinct same xs) (all_distinct P same xs h.1))

pub all_has : {X : Type 0} (P : X → Type 0) (xs : List X) → AllOf P xs → (x : X) → Has x xs → P x
all_has P [] h x i = absurd i
all_has P (y ∷ ys) h x (inl e) = subst P e h.0
all_has P (y ∷ ys) h x (inr i) = all_has P ys h.1 x i

pub all_from : {X : Type 0} (P : X → Type 0) (xs : List X) → ((x : X) → Has x xs → P x) → AllOf P xs
all_from P [] f = tt
all_from P (x ∷ xs) f = (f x (inl refl), all_from P xs (λ y h. f y (inr h)))

module _ (on : ℕ → ℕ) (A : ℕ → Type 0) where
  pub slots_then : (K : ℕ → Type 0) (X Y : Type 0) (ss ts xs ys : List ℕ) → SlotForks on K A X ss ts → (X → SlotForks on K A Y xs ys) → SlotForks on K A Y (ss ++ xs) (ts ++ ys)
  slots_then K X Y [] [] xs ys f g = g f
  slots_then K X Y [] (t ∷ ts) xs ys f g = absurd f
  slots_then K X Y (s ∷ ss) [] xs ys f g = absurd f
  slots_then K X Y (s ∷ ss) (t ∷ ts) xs ys f g = (f.0, f.1, λ a. slots_then K X Y ss ts xs ys (f.2 a) g)

  pub slots_map : (K : ℕ → Type 0) (X Y : Type 0) (ss ts : List ℕ) → SlotForks on K A X ss ts → (X → Y) → SlotForks on K A Y ss ts
  slots_map K X Y [] [] f g = g f
  slots_map K X Y [] (t ∷ ts) f g = absurd f
  slots_map K X Y (s ∷ ss) [] f g = absurd f
  slots_map K X Y (s ∷ ss) (t ∷ ts) f g = (f.0, f.1, λ a. slots_map K X Y ss ts (f.2 a) g)

  -- at the end all of the two lists agree
  pub slots_known : (K : ℕ → Type 0) (X : Type 0) (ss ts : List ℕ) → SlotForks on K A X ss ts → SlotForks on K A (X × (ts ≡ map on ss) × AllOf A ss) ss ts
  slots_known K X [] [] f = (f, refl, tt)
  slots_known K X [] (t ∷ ts) f = absurd f
  slots_known K X (s ∷ ss) [] f = absurd f
  slots_known K X (s ∷ ss) (t ∷ ts) f =
      (f.0, f.1, λ a. slots_map K (X × (ts ≡ map on ss) × AllOf A ss) (X × (t ∷ ts ≡ map on (s ∷ ss)) × AllOf A (s ∷ ss)) ss ts (slots_known K X ss ts (f.2 a)) (λ r. (r.0, ap (λ (x : ℕ). x ∷ ts) f.0 ∙ ap (λ (x : List ℕ). on s ∷ x) r.1, (a, r.2))))

  pub slots_same : (K : ℕ → Type 0) (ss : List ℕ) → AllOf K ss → SlotForks on K A (AllOf A ss) ss (map on ss)
  slots_same K [] k = tt
  slots_same K (s ∷ ss) k = (refl, k.0, λ a. slots_map K (AllOf A ss) (AllOf A (s ∷ ss)) ss (map on ss) (slots_same K ss k.1) (λ r. (a, r)))

  pub slots_with : (K L : ℕ → Type 0) (X : Type 0) (ss ts : List ℕ) → AllOf L ss → SlotForks on K A X ss ts → SlotForks on L A X ss ts
  slots_with K L X [] [] l f = f
  slots_with K L X [] (t ∷ ts) l f = absurd f
  slots_with K L X (s ∷ ss) [] l f = absurd f
  slots_with K L X (s ∷ ss) (t ∷ ts) l f = (f.0, l.0, λ a. slots_with K L X ss ts l.1 (f.2 a))

  -- where the vectors agree all along
  pub slots_agreed : (K : ℕ → Type 0) (X : Type 0) (ss ts : List ℕ) → AllOf A ss → SlotForks on K A X ss ts → X × (ts ≡ map on ss) × AllOf K ss
  slots_agreed K X [] [] a f = (f, refl, tt)
  slots_agreed K X [] (t ∷ ts) a f = absurd f
  slots_agreed K X (s ∷ ss) [] a f = absurd f
  slots_agreed K X (s ∷ ss) (t ∷ ts) a f = let r = slots_agreed K X ss ts a.1 (f.2 a.0) in (r.0, ap (λ (x : ℕ). x ∷ ts) f.0 ∙ ap (λ (x : List ℕ). on s ∷ x) r.1, (f.1, r.2))

  -- where they agree on whatever comes, all that comes is known
  pub slots_always : (K : ℕ → Type 0) (X : Type 0) (ss ts : List ℕ) → ((s : ℕ) → K s → A s) → SlotForks on K A X ss ts → X × (ts ≡ map on ss) × AllOf K ss
  slots_always K X [] [] a f = (f, refl, tt)
  slots_always K X [] (t ∷ ts) a f = absurd f
  slots_always K X (s ∷ ss) [] a f = absurd f
  slots_always K X (s ∷ ss) (t ∷ ts) a f = let r = slots_always K X ss ts a (f.2 (a s f.1)) in (r.0, ap (λ (x : ℕ). x ∷ ts) f.0 ∙ ap (λ (x : List ℕ). on s ∷ x) r.1, (f.1, r.2))

  module _ (K : ℕ → Type 0) (apart : (x y : ℕ) → K x → K y → on x ≡ on y → x ≡ y) where
    abbrev same : ℕ → ℕ → Bool
    same m n = m == n

    slots_without : (X : Type 0) (x : ℕ) (ss ts : List ℕ) → K x → A x → SlotForks on K A X ss ts → SlotForks on K A X (filter (λ y. not (x == y)) ss) (filter (λ y. not (on x == y)) ts)
    slots_without X x [] [] k a f = f
    slots_without X x [] (t ∷ ts) k a f = absurd f
    slots_without X x (s ∷ ss) [] k a f = absurd f
    slots_without X x (s ∷ ss) (t ∷ ts) k a f = go (cases_Bool (x == s)) (λ b. slots_without X x ss ts k a (f.2 b))
      where
        go : ((x == s) ≡ true) ⊎ ((x == s) ≡ false) → (A s → SlotForks on K A X (filter (λ y. not (x == y)) ss) (filter (λ y. not (on x == y)) ts)) → SlotForks on K A X (filter (λ y. not (x == y)) (s ∷ ss)) (filter (λ y. not (on x == y)) (t ∷ ts))
        go (inl e) r =
            let q : x ≡ s = eqb-true x s e in
            let d : (on x == t) ≡ true = eq-eqb (on x) t (ap on q ∙ sym f.0) in
            rw (e, d) (r (subst A q a))
        go (inr e) r =
            let d : (on x == t) ≡ false = off (cases_Bool (on x == t)) in
            rw (e, d) (f.0, f.1, r)
          where
            off : ((on x == t) ≡ true) ⊎ ((on x == t) ≡ false) → (on x == t) ≡ false
            off (inr d) = d
            off (inl d) = let q : x ≡ s = apart x s k f.1 (eqb-true (on x) t d ∙ f.0) in absurd (cc (e, eq-eqb x s q))

    pub slots_distinct : (X : Type 0) (ss ts : List ℕ) → SlotForks on K A X ss ts → SlotForks on K A X (distinct (λ m n. m == n) ss) (distinct (λ m n. m == n) ts)
    slots_distinct X [] [] f = f
    slots_distinct X [] (t ∷ ts) f = absurd f
    slots_distinct X (s ∷ ss) [] f = absurd f
    slots_distinct X (s ∷ ss) (t ∷ ts) f =
        (f.0, f.1, λ a. subst (λ (x : ℕ). SlotForks on K A X (filter (λ y. not (s == y)) (distinct (λ m n. m == n) ss)) (filter (λ y. not (x == y)) (distinct (λ m n. m == n) ts))) (sym f.0) (slots_without X s (distinct (λ m n. m == n) ss) (distinct (λ m n. m == n) ts) f.1 a (slots_distinct X ss ts (f.2 a))))

-- ---- each once

module _ {X : Type 0} (same : X → X → Bool) where
  -- the elements that a second list adds to a first
  abbrev pub added : List X → List X → List X
  added [] ys = distinct same ys
  added (x ∷ xs) ys = filter (λ y. not (same x y)) (added xs ys)

  pub distinct_append : (xs ys : List X) → distinct same (xs ++ ys) ≡ distinct same xs ++ added xs ys
  distinct_append [] ys = refl
  distinct_append (x ∷ xs) ys = ap (λ (l : List X). x ∷ filter (λ y. not (same x y)) l) (distinct_append xs ys) ∙ ap (λ (l : List X). x ∷ l) (filter-append (λ y. not (same x y)) (distinct same xs) (added xs ys))

  -- a renaming that takes elements apart
  module _ (P : X → Type 0) (f : X → X) (one : (x y : X) → P x → P y → same (f x) (f y) ≡ same x y) where
    filter_renamed : (x : X) (ys : List X) → P x → AllOf P ys → filter (λ y. not (same (f x) y)) (map f ys) ≡ map f (filter (λ y. not (same x y)) ys)
    filter_renamed x [] p a = refl
    filter_renamed x (y ∷ ys) p a = rw (one x y p a.0) (go (same x y) (filter_renamed x ys p a.1))
      where
        go : (b : Bool) → filter (λ y. not (same (f x) y)) (map f ys) ≡ map f (filter (λ y. not (same x y)) ys)
            → (if not b then f y ∷ filter (λ y. not (same (f x) y)) (map f ys) else filter (λ y. not (same (f x) y)) (map f ys)) ≡ map f (if not b then y ∷ filter (λ y. not (same x y)) ys else filter (λ y. not (same x y)) ys)
        go true r = r
        go false r = ap (λ (l : List X). f y ∷ l) r

    pub distinct_renamed : (xs : List X) → AllOf P xs → distinct same (map f xs) ≡ map f (distinct same xs)
    distinct_renamed [] a = refl
    distinct_renamed (x ∷ xs) a = ap (λ (l : List X). f x ∷ filter (λ y. not (same (f x) y)) l) (distinct_renamed xs a.1) ∙ ap (λ (l : List X). f x ∷ l) (filter_renamed x (distinct same xs) a.0 (all_distinct P same xs a.1))
