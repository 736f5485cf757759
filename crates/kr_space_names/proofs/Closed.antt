-- Lists in which the array types in each type are listed too.
use Rattle.std.proofs.Common.{◌≡◌, ℕ, ◌<◌, ◌⊎◌, inl, inr, Bool, true, false, cond, List, [], ◌∷◌, ◌++◌, refl, sym, ap, subst, ◌∙◌}
use Rattle.std.proofs.lemmas.List.Sums.{fold-append}
use Rattle.std.proofs.lemmas.Bool.{or_cases, or_right, or_left}
use Rattle.kr_classes_table.specs.Types.{JavaType, ArrayType, SetType, ListType, is_same}
use Rattle.kr_classes_table.specs.Arrays.{arrays_in, is_listed}
use Rattle.kr_classes_names.specs.Types.{TypeList, AreDistinct, Extends, count, type_at}
use Rattle.kr_classes_names.proofs.Same.{equal, same_itself}
use Rattle.kr_space_names.specs.Collected.{AreNumbers, IsClosed, collect, collected, types_shown}
use Rattle.kr_space_names.specs.Numbers.{has_number}
use Rattle.kr_space_names.proofs.Collecting.{collect_there, listed_number, shown_kept}

-- ---- types of two lists

front : (t : JavaType) (xs ys : List JavaType) → is_listed t xs ≡ true → is_listed t (xs ++ ys) ≡ true
front t [] ys e = absurd (cc (e))
front t (x ∷ xs) ys e = elim (or_cases (is_same t x) (is_listed t xs) e) [
  | inl a ↦ or_left (is_same t x) (is_listed t (xs ++ ys)) a
  | inr b ↦ or_right (is_same t x) (is_listed t (xs ++ ys)) (front t xs ys b)
]

back : (t : JavaType) (xs ys : List JavaType) → is_listed t ys ≡ true → is_listed t (xs ++ ys) ≡ true
back t [] ys e = e
back t (x ∷ xs) ys e = or_right (is_same t x) (is_listed t (xs ++ ys)) (back t xs ys e)

split : (t : JavaType) (xs ys : List JavaType) → is_listed t (xs ++ ys) ≡ true → (is_listed t xs ≡ true) ⊎ (is_listed t ys ≡ true)
split t [] ys e = inr e
split t (x ∷ xs) ys e = elim (or_cases (is_same t x) (is_listed t (xs ++ ys)) e) [
  | inl a ↦ inl (or_left (is_same t x) (is_listed t xs) a)
  | inr b ↦ elim (split t xs ys b) [ inl c ↦ inl (or_right (is_same t x) (is_listed t xs) c) | inr d ↦ inr d ]
]

alone : (t x : JavaType) → is_listed t (x ∷ []) ≡ true → is_same t x ≡ true
alone t x e = elim (or_cases (is_same t x) false e) [ inl a ↦ a | inr b ↦ absurd (cc (b)) ]

-- the array types in an array type in a type are in that type
inside : (t u v : JavaType) → is_listed u (arrays_in t) ≡ true → is_listed v (arrays_in u) ≡ true → is_listed v (arrays_in t) ≡ true
inside (ArrayType t) u v e f = elim (split u (arrays_in t) (ArrayType t ∷ []) e) [
  | inl a ↦ front v (arrays_in t) (ArrayType t ∷ []) (inside t u v a f)
  | inr b ↦ subst (λ (w : JavaType). is_listed v (arrays_in w) ≡ true) (equal u (ArrayType t) (alone u (ArrayType t) b)) f
]
inside (SetType t) u v e f = inside t u v e f
inside (ListType t) u v e f = inside t u v e f
inside _ u v e f = absurd (cc (e))

-- ---- types of a list that grows

kept_in : (done ts : List JavaType) (u : JavaType) → is_listed u done ≡ true → is_listed u (collected done ts) ≡ true
kept_in done [] u e = e
kept_in done (t ∷ ts) u e = kept_in (collect done t) ts u (one (is_listed t done))
  where
    one : (b : Bool) → is_listed u (cond b done (done ++ t ∷ [])) ≡ true
    one true = e
    one false = front u done (t ∷ []) e

one_in : (done : List JavaType) (t u : JavaType) → is_same u t ≡ true → is_listed u (collect done t) ≡ true
one_in done t u e = go (is_listed t done) refl
  where
    go : (b : Bool) → is_listed t done ≡ b → is_listed u (cond b done (done ++ t ∷ [])) ≡ true
    go true f = subst (λ (w : JavaType). is_listed w done ≡ true) (sym (equal u t e)) f
    go false f = back u done (t ∷ []) (or_left (is_same u t) false e)

comes_in : (done ts : List JavaType) (u : JavaType) → is_listed u ts ≡ true → is_listed u (collected done ts) ≡ true
comes_in done [] u e = absurd (cc (e))
comes_in done (t ∷ ts) u e = elim (or_cases (is_same u t) (is_listed u ts) e) [
  | inl a ↦ kept_in (collect done t) ts u (one_in done t u a)
  | inr b ↦ comes_in (collect done t) ts u b
]

comes_from : (done ts : List JavaType) (u : JavaType) → is_listed u (collected done ts) ≡ true → (is_listed u done ≡ true) ⊎ (is_listed u ts ≡ true)
comes_from done [] u e = inl e
comes_from done (t ∷ ts) u e = elim (comes_from (collect done t) ts u e) [
  | inl a ↦ one (is_listed t done) a
  | inr b ↦ inr (or_right (is_same u t) (is_listed u ts) b)
]
  where
    one : (b : Bool) → is_listed u (cond b done (done ++ t ∷ [])) ≡ true → (is_listed u done ≡ true) ⊎ (is_listed u (t ∷ ts) ≡ true)
    one true a = inl a
    one false a = elim (split u done (t ∷ []) a) [ inl c ↦ inl c | inr d ↦ inr (or_left (is_same u t) (is_listed u ts) (alone u t d)) ]

settled : (done ts : List JavaType) → ((u : JavaType) → is_listed u ts ≡ true → is_listed u done ≡ true) → collected done ts ≡ done
settled done [] h = refl
settled done (t ∷ ts) h =
    ap (λ (d : List JavaType). collected d ts) (sym (collect_there done t (is_listed t done) refl (h t (or_left (is_same t t) (is_listed t ts) (same_itself t)))))
    ∙ settled done ts (λ u e. h u (or_right (is_same u t) (is_listed u ts) e))

-- ---- closed lists

pub closed_none : (l : TypeList) (ns : List ℕ) → ns ≡ [] → IsClosed (types_shown l ns)
closed_none l ns e = subst (λ (ms : List ℕ). IsClosed (types_shown l ms)) (sym e) (λ t u f g. absurd (cc (f)))

pub closed_kept : (a b : TypeList) (ns : List ℕ) → Extends a b → AreNumbers a ns → IsClosed (types_shown a ns) → IsClosed (types_shown b ns)
closed_kept a b ns e h c = subst (λ (ts : List JavaType). IsClosed ts) (sym (shown_kept a b ns e h)) c

-- with a type that is listed, nothing comes
pub there_already : (l : TypeList) (ns : List ℕ) (n : ℕ) (b : Bool) → AreDistinct l → AreNumbers l ns → n < count l → IsClosed (types_shown l ns) → b ≡ has_number ns n → b ≡ true
    → collected (types_shown l ns) (arrays_in (type_at l n)) ≡ types_shown l ns
there_already l ns n b d h k c e t =
    settled (types_shown l ns) (arrays_in (type_at l n)) (λ u f. c (type_at l n) u (listed_number l ns n d h k ∙ sym e ∙ t) f)

pub none_in : (done ts : List JavaType) → ts ≡ [] → collected done ts ≡ done
none_in done ts e = ap (λ (us : List JavaType). collected done us) e

pub rest_there : (done all inner rest : List JavaType) → all ≡ inner ++ rest → collected done inner ≡ done → collected done rest ≡ collected done all
rest_there done all inner rest e h =
    sym (ap (λ (ts : List JavaType). collected done ts) e ∙ (fold-append collect done inner rest ∙ ap (λ (d : List JavaType). collected d rest) h))

pub closed_more : (done done' : List JavaType) (t : JavaType) → done' ≡ collected done (arrays_in t) → IsClosed done → IsClosed done'
closed_more done done' t s c = subst (λ (ts : List JavaType). IsClosed ts) (sym s) (λ u v e f. elim (comes_from done (arrays_in t) u e) [
  | inl a ↦ kept_in done (arrays_in t) v (c u v a f)
  | inr b ↦ comes_in done (arrays_in t) v (inside t u v b f)
])
