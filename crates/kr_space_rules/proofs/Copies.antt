-- Numbers that occur twice among those of some spans.
use Rattle.std.proofs.Common.{◌≡◌, ℕ, zero, suc, ◌+◌, ◌-◌, ◌<◌, ◌≤◌, ◌==◌, inl, inr, Bool, true, false, cond, nat_lt, List, [], ◌∷◌, ◌++◌, length, get_or, refl, sym, ap, subst, ◌∙◌, arith}
use Rattle.std.specs.Prelude.{◌||◌}
use Rattle.std.specs.List.{AllByRecursion, list_any, range_with_len, sum_by}
use Rattle.std.specs.List.Sorted.{IsNonDecreasingBy, IsPermutation}
use Rattle.std.proofs.lemmas.Bool.{cases_lt, cases_order, cases_eq, eq-eqb, ne_eqb, eqb-true, eqb-false, lt-ltb, le-ltb, ltb-true, ltb-false, or_cases, or_parts, true_from_ne_false, cases_Bool}
use Rattle.std.proofs.lemmas.List.Sums.{sum_by-cons}
use Rattle.std.proofs.lemmas.List.Sorted.{sum_by-IsPermutation}
use Rattle.kr_space_rules.specs.declared.spans.Span.{Span}
use Rattle.kr_space_rules.specs.Spans.{covered, meet}

-- ---- how often a number occurs in a list

abbrev one : Bool → ℕ
one b = cond b 1 0

abbrev pub count : ℕ → List ℕ → ℕ
count z [] = 0
count z (x ∷ xs) = one (x == z) + count z xs

abbrev pub has_copy : List ℕ → Bool
has_copy [] = false
has_copy (x ∷ xs) = list_any (λ y. x == y) xs || has_copy xs

one_yes : (x z : ℕ) → x ≡ z → one (x == z) ≡ 1
one_yes x z e = ap one (eq-eqb x z e)

one_no : (x z : ℕ) → (x ≡ z → ⊥) → one (x == z) ≡ 0
one_no x z e = ap one (ne_eqb x z e)

one_most : (b : Bool) → one b ≤ 1
one_most true = omega arith
one_most false = omega arith

count-append : (z : ℕ) (xs ys : List ℕ) → count z (xs ++ ys) ≡ count z xs + count z ys
count-append z [] ys = omega arith
count-append z (x ∷ xs) ys = let r = count-append z xs ys in omega (arith, r)

any_counted : (x : ℕ) (xs : List ℕ) → list_any (λ y. x == y) xs ≡ true → 1 ≤ count x xs
any_counted x [] e = absurd (cc (e))
any_counted x (y ∷ ys) e = elim (or_cases (x == y) (list_any (λ z. x == z) ys) e) [
  | inl h ↦ let m = one_yes y x (sym (eqb-true x y h)) in omega (arith, m)
  | inr h ↦ let m = any_counted x ys h in omega (arith, m)
]

none_counted : (x : ℕ) (xs : List ℕ) → list_any (λ y. x == y) xs ≡ false → count x xs ≡ 0
none_counted x [] e = refl
none_counted x (y ∷ ys) e =
    let p = or_parts (x == y) (list_any (λ z. x == z) ys) e in
    let m = one_no y x (λ h. eqb-false x y p.0 (sym h)) in
    let n = none_counted x ys p.1 in
    omega (arith, m, n)

twice_counted : (xs : List ℕ) → has_copy xs ≡ true → (z : ℕ) × (2 ≤ count z xs)
twice_counted [] e = absurd (cc (e))
twice_counted (x ∷ xs) e = elim (or_cases (list_any (λ y. x == y) xs) (has_copy xs) e) [
  | inl h ↦ (x, (let m = any_counted x xs h in let n = one_yes x x refl in omega (arith, m, n)))
  | inr h ↦ (let r = twice_counted xs h in (r.0, (let m = r.1 in omega (arith, m))))
]

once_counted : (xs : List ℕ) → has_copy xs ≡ false → (z : ℕ) → count z xs ≤ 1
once_counted [] e z = omega arith
once_counted (x ∷ xs) e z =
    let p = or_parts (list_any (λ y. x == y) xs) (has_copy xs) e in
    let r = once_counted xs p.1 z in
    elim (cases_eq x z) [
      | inl h ↦ (let m = subst (λ (y : ℕ). count y xs ≡ 0) h (none_counted x xs p.0) in let n = one_most (x == z) in omega (arith, m, n))
      | inr h ↦ (let m = one_no x z h in omega (arith, m, r))
    ]

-- ---- whether a number is in a span

abbrev inside : ℕ → ℕ → ℕ → ℕ
inside z s n = cond (nat_lt z s) 0 (cond (nat_lt z (s + n)) 1 0)

inside_in : (z s n : ℕ) → s ≤ z → z < s + n → inside z s n ≡ 1
inside_in z s n a b = ap (λ c. cond c 0 (cond (nat_lt z (s + n)) 1 0)) (le-ltb z s a) ∙ ap (λ c. cond c 1 0) (lt-ltb z (s + n) b)

inside_before : (z s n : ℕ) → z < s → inside z s n ≡ 0
inside_before z s n a = ap (λ c. cond c 0 (cond (nat_lt z (s + n)) 1 0)) (lt-ltb z s a)

inside_behind : (z s n : ℕ) → s + n ≤ z → inside z s n ≡ 0
inside_behind z s n a = ap (λ c. cond c 0 (cond (nat_lt z (s + n)) 1 0)) (le-ltb z s (omega (arith, a))) ∙ ap (λ c. cond c 1 0) (le-ltb z (s + n) a)

inside_most : (z s n : ℕ) → inside z s n ≤ 1
inside_most z s n = elim (cases_lt z s) [
  | inl h ↦ (let e = inside_before z s n h in omega (arith, e))
  | inr h ↦ (elim (cases_lt z (s + n)) [
    | inl k ↦ (let e = inside_in z s n h k in omega (arith, e))
    | inr k ↦ (let e = inside_behind z s n k in omega (arith, e))
  ])
]

count_range : (z s n : ℕ) → count z (range_with_len s n) ≡ inside z s n
count_range z s zero = elim (cases_lt z s) [
  | inl h ↦ sym (inside_before z s 0 h)
  | inr h ↦ sym (inside_behind z s 0 (omega (arith, h)))
]
count_range z s (suc n) =
    let r = count_range z (s + 1) n in
    elim (cases_order z s) [
      | inl h ↦ (let a = one_yes s z (sym h) in let b = inside_before z (s + 1) n (omega (arith, h)) in let c = inside_in z s (suc n) (omega (arith, h)) (omega (arith, h)) in omega (arith, r, a, b, c))
      | inr o ↦ (elim o [
        | inl h ↦ (let a = one_no s z (λ e. no e h) in let b = inside_before z (s + 1) n (omega (arith, h)) in let c = inside_before z s (suc n) h in omega (arith, r, a, b, c))
        | inr h ↦ (let a = one_no s z (λ e. other e h) in elim (cases_lt z (s + suc n)) [
          | inl k ↦ (let b = inside_in z (s + 1) n (omega (arith, h)) (omega (arith, k)) in let c = inside_in z s (suc n) (omega (arith, h)) k in omega (arith, r, a, b, c))
          | inr k ↦ (let b = inside_behind z (s + 1) n (omega (arith, k)) in let c = inside_behind z s (suc n) k in omega (arith, r, a, b, c))
        ])
      ])
    ]
  where
    no : {s z : ℕ} → s ≡ z → z < s → ⊥
    no e h = absurd (omega (arith, e, h))

    other : {s z : ℕ} → s ≡ z → s < z → ⊥
    other e h = absurd (omega (arith, e, h))

abbrev in_span : ℕ → Span → ℕ
in_span z s = inside z s.start s.count

count_covered : (z : ℕ) (ss : List Span) → count z (covered ss) ≡ sum_by (in_span z) ss
count_covered z [] = refl
count_covered z (s ∷ ss) =
    count-append z (range_with_len s.start s.count) (covered ss)
    ∙ (let a = count_range z s.start s.count in let b = count_covered z ss in let c = sum_by-cons (in_span z) s ss in omega (arith, a, b, c))

-- ---- spans in order

abbrev Rises : ℕ → List Span → Type 0
Rises m [] = Unit {0}
Rises m (s ∷ ss) = (m ≤ s.start) × Rises s.start ss

rises_from : (m : ℕ) (ss : List Span) → ((d : Span) → 0 < length ss → m ≤ (get_or ss 0 d).start) → IsNonDecreasingBy (λ (s : Span). s.start) ss → Rises m ss
rises_from m [] h o = tt
rises_from m (s ∷ ss) h o = (h s (omega arith), rises_from s.start ss (λ d l. o 0 1 d (omega arith) (omega (arith, l))) (λ i j d a b. o (suc i) (suc j) d (omega (arith, a)) (omega (arith, b))))

none_before : (z m : ℕ) (ss : List Span) → Rises m ss → z < m → sum_by (in_span z) ss ≡ 0
none_before z m [] r h = refl
none_before z m (s ∷ ss) r h =
    let le = r.0 in
    let a = inside_before z s.start s.count (omega (arith, h, le)) in
    let b = none_before z s.start ss r.1 (omega (arith, h, le)) in
    let c = sum_by-cons (in_span z) s ss in
    omega (arith, a, b, c)

abbrev Some : List Span → Type 0
Some ss = AllByRecursion (λ s. 0 < s.count) ss

met : (p : Span) (ss : List Span) → Some ss → Rises p.start ss → meet p ss ≡ true → (z : ℕ) × (2 ≤ in_span z p + sum_by (in_span z) ss)
met p [] f r e = absurd (cc (e))
met p (s ∷ ss) f r e = elim (or_cases (nat_lt (s.start - p.start) p.count) (meet s ss) e) [
  | inl h ↦ (
      let lt = ltb-true (s.start - p.start) p.count h in
      let le = r.0 in
      let some = f.0 in
      let a = inside_in s.start p.start p.count le (omega (arith, lt, le)) in
      let b = inside_in s.start s.start s.count (omega arith) (omega (arith, some)) in
      let c = sum_by-cons (in_span s.start) s ss in
      (s.start, omega (arith, a, b, c))
      )
  | inr h ↦ (
      let m = met s ss f.1 r.1 h in
      let c = sum_by-cons (in_span m.0) s ss in
      let d = m.1 in
      (m.0, omega (arith, c, d))
      )
]

apart : (p : Span) (ss : List Span) → Rises p.start ss → meet p ss ≡ false → (z : ℕ) → in_span z p + sum_by (in_span z) ss ≤ 1
apart p [] r e z = let a = inside_most z p.start p.count in omega (arith, a)
apart p (s ∷ ss) r e z =
    let parts = or_parts (nat_lt (s.start - p.start) p.count) (meet s ss) e in
    let ge = ltb-false (s.start - p.start) p.count parts.0 in
    let le = r.0 in
    elim (cases_lt z s.start) [
      | inl h ↦ (let a = inside_most z p.start p.count in let b = none_before z s.start (s ∷ ss) (omega arith, r.1) h in omega (arith, a, b))
      | inr h ↦ (let a = inside_behind z p.start p.count (omega (arith, ge, le, h)) in let b = apart s ss r.1 parts.1 z in let c = sum_by-cons (in_span z) s ss in omega (arith, a, b, c))
    ]

abbrev nothing : Span
nothing = record { start = 0; count = 0 }

-- sorted spans meet where a number occurs twice among those of the spans, in any order
pub meet_is : (spans sorted : List Span) → IsPermutation spans sorted → IsNonDecreasingBy (λ (s : Span). s.start) sorted → Some sorted → meet (record { start = 0; count = 0 }) sorted ≡ has_copy (covered spans)
meet_is spans sorted p o f = elim (cases_Bool (meet nothing sorted)) [
  | inl meets ↦ meets ∙ sym (true_from_ne_false (has_copy (covered spans)) (λ clear. twice meets clear))
  | inr clear ↦ clear ∙ sym (elim (cases_Bool (has_copy (covered spans))) [
    | inl meets ↦ absurd (once clear meets)
    | inr single ↦ single
  ])
]
  where
    rises : Rises 0 sorted
    rises = rises_from 0 sorted (λ d l. omega arith) o

    total : (z : ℕ) → count z (covered spans) ≡ sum_by (in_span z) sorted
    total z = count_covered z spans ∙ sym (sum_by-IsPermutation (in_span z) spans sorted p)

    empty : (z : ℕ) → in_span z nothing ≡ 0
    empty z = inside_behind z 0 0 (omega arith)

    twice : meet nothing sorted ≡ true → has_copy (covered spans) ≡ false → ⊥
    twice meets clear =
        let m = met nothing sorted f rises meets in
        let a = once_counted (covered spans) clear m.0 in
        let b = total m.0 in
        let c = empty m.0 in
        let d = m.1 in
        absurd (omega (arith, a, b, c, d))

    once : meet nothing sorted ≡ false → has_copy (covered spans) ≡ true → ⊥
    once clear meets =
        let m = twice_counted (covered spans) meets in
        let a = apart nothing sorted rises clear m.0 in
        let b = total m.0 in
        let c = empty m.0 in
        let d = m.1 in
        absurd (omega (arith, a, b, c, d))
