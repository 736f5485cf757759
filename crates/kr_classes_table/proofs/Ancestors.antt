-- The line upwards from a class.
use Rattle.std.proofs.Common.{◌≡◌, refl, sym, ap, ◌∙◌, subst, inl, inr, ◌⊎◌, ℕ, zero, suc, ◌<◌, ◌≤◌, Bool, true, false, ◌||◌, nat_eq, List, [], ◌∷◌, length, rules, arith}
use Rattle.std.specs.Prelude.{Option, Some, None}
use Rattle.std.specs.List.{list_any, IsDistinct, AllByRecursion}
use Rattle.std.proofs.lemmas.Map.Steps.{length-le_from_distinct_below}
use Rattle.std.proofs.lemmas.Bool.{or_right}
use Rattle.kr_classes_table.specs.Table.{Table, is_among, line_within, super_of}
use Rattle.kr_classes_table.specs.Ancestors.{IsClosed, AncestorsLaw}

same : (a b : ℕ) → nat_eq a b ≡ true → a ≡ b
same a b p = grind (arith, rules)

left_false : (a b : Bool) → a || b ≡ false → a ≡ false
left_false true b e = absurd (cc (e))
left_false false b e = refl

right_false : (a b : Bool) → a || b ≡ false → b ≡ false
right_false true b e = absurd (cc (e))
right_false false b e = e

one_of : (a b : Bool) → a || b ≡ true → (a ≡ true) ⊎ (b ≡ true)
one_of true b e = inl refl
one_of false b e = inr e

or_left : (a b : Bool) → a ≡ true → a || b ≡ true
or_left true b e = refl
or_left false b e = absurd (cc (e))

-- one of a line is one of a longer line
longer : (j k : ℕ) (t : Table) (o : Option ℕ) (d : ℕ) → j ≤ k → is_among d (line_within j t o) ≡ true → is_among d (line_within k t o) ≡ true
longer zero k t o d l h = absurd (cc (h))
longer (suc j) zero t o d l h = absurd (omega (arith, l))
longer (suc j) (suc k) t None d l h = absurd (cc (h))
longer (suc j) (suc k) t (Some c) d l h = elim (one_of (nat_eq d c) (is_among d (line_within j t (super_of t c))) h) [
  | inl e ↦ or_left (nat_eq d c) (is_among d (line_within k t (super_of t c))) e
  | inr e ↦ or_right (nat_eq d c) (is_among d (line_within k t (super_of t c))) (longer j k t (super_of t c) d (omega (arith, l)) e)
]

first : (k : ℕ) (t : Table) (o : Option ℕ) (e : ℕ) → o ≡ Some e → is_among e (line_within (suc k) t o) ≡ true
first k t o e s = subst (λ x. is_among e (line_within (suc k) t x) ≡ true) (sym s) (or_left (nat_eq e e) _ (grind (arith, rules)))

-- the superclass of one of a line is one of the line that is longer by one
follows : (k : ℕ) (t : Table) (o : Option ℕ) (d e : ℕ) → is_among d (line_within k t o) ≡ true → super_of t d ≡ Some e → is_among e (line_within (suc k) t o) ≡ true
follows zero t o d e h s = absurd (cc (h))
follows (suc k) t None d e h s = absurd (cc (h))
follows (suc k) t (Some c) d e h s = elim (one_of (nat_eq d c) (is_among d (line_within k t (super_of t c))) h) [
  | inl p ↦ or_right (nat_eq e c) (is_among e (line_within (suc k) t (super_of t c))) (first k t (super_of t c) e (subst (λ x. super_of t x ≡ Some e) (same d c p) s))
  | inr p ↦ or_right (nat_eq e c) (is_among e (line_within (suc k) t (super_of t c))) (follows k t (super_of t c) d e p s)
]

-- a line that has fewer than it may have isn't cut
uncut : (k : ℕ) (t : Table) (o : Option ℕ) → length (line_within (suc k) t o) ≤ k → line_within (suc k) t o ≡ line_within k t o
uncut zero t None l = refl
uncut zero t (Some c) l = absurd (omega (arith, l))
uncut (suc k) t None l = refl
uncut (suc k) t (Some c) l = ap (λ xs. c ∷ xs) (uncut k t (super_of t c) (omega (arith, l)))

others : (c : ℕ) (xs : List ℕ) → is_among c xs ≡ false → AllByRecursion (λ y. nat_eq c y ≡ false) xs
others c [] e = _
others c (x ∷ xs) e = (left_false (nat_eq c x) (is_among c xs) e, others c xs (right_false (nat_eq c x) (is_among c xs) e))

distinct : (n k : ℕ) (t : Table) (o : Option ℕ) → ((j c : ℕ) → j ≤ n → is_among c (line_within j t (super_of t c)) ≡ false) → k ≤ suc n → IsDistinct nat_eq (line_within k t o)
unfolding IsDistinct
distinct n zero t o a l = _
distinct n (suc k) t None a l = _
distinct n (suc k) t (Some c) a l = (others c (line_within k t (super_of t c)) (a k c (omega (arith, l))), distinct n k t (super_of t c) a (omega (arith, l)))

below : (k : ℕ) (t : Table) (o : Option ℕ) → ((x : ℕ) → o ≡ Some x → x < length t.classes) → IsClosed t → (q : ℕ) → is_among q (line_within k t o) ≡ true → q < length t.classes
below zero t o b z q h = absurd (cc (h))
below (suc k) t None b z q h = absurd (cc (h))
below (suc k) t (Some c) b z q h = elim (one_of (nat_eq q c) (is_among q (line_within k t (super_of t c))) h) [
  | inl p ↦ subst (λ x. x < length t.classes) (sym (same q c p)) (b c refl)
  | inr p ↦ below k t (super_of t c) (z c) z q p
]

as_any : (q : ℕ) (xs : List ℕ) → list_any (nat_eq q) xs ≡ is_among q xs
as_any q [] = refl
as_any q (x ∷ xs) = ap (λ b. nat_eq q x || b) (as_any q xs)

not_true : (b : Bool) → (b ≡ true → ⊥) → b ≡ false
not_true true k = absurd (k refl)
not_true false k = refl

pub ancestors_law : AncestorsLaw
ancestors_law t acyclic closed c d e h s =
    let n = length t.classes in
    let o = super_of t c in
    let apart : (j x : ℕ) → j ≤ n → is_among x (line_within j t (super_of t x)) ≡ false = λ j x l. not_true _ (λ b. absurd (cc (acyclic x, longer j n t (super_of t x) x l b))) in
    let short = length-le_from_distinct_below (line_within (suc n) t o) n (distinct n (suc n) t o apart (omega arith)) (λ q b. below (suc n) t o (closed c) closed q (sym (as_any q (line_within (suc n) t o)) ∙ b)) in
    subst (λ l. is_among e l ≡ true) (uncut n t o short) (follows n t o d e h s)
