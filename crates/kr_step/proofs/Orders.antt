-- The order of keys.
use Rattle.std.proofs.Common.{◌≡◌, ℕ, inl, inr, List, [], ◌∷◌, ◌∙◌, arith, true, false}
use Rattle.std.proofs.lemmas.Bool.{cases_Bool}
use Rattle.kr_base.specs.Cuts.{Before, is_before}
use Rattle.kr_base.proofs.Orders.{before_from_test, test_from_before}

pub before_not_self : (xs : List ℕ) → Before xs xs → ⊥
before_not_self [] b = b
before_not_self (x ∷ xs) (inl h) = omega arith
before_not_self (x ∷ xs) (inr h) = before_not_self xs h.1

pub before_trans : (xs ys zs : List ℕ) → Before xs ys → Before ys zs → Before xs zs
before_trans [] [] zs a b = absurd a
before_trans [] (y ∷ ys) [] a b = absurd b
before_trans [] (y ∷ ys) (z ∷ zs) a b = tt
before_trans (x ∷ xs) [] zs a b = absurd a
before_trans (x ∷ xs) (y ∷ ys) [] a b = absurd b
before_trans (x ∷ xs) (y ∷ ys) (z ∷ zs) (inl p) (inl q) = inl (omega arith)
before_trans (x ∷ xs) (y ∷ ys) (z ∷ zs) (inl p) (inr q) = inl (let e = q.0 in omega arith)
before_trans (x ∷ xs) (y ∷ ys) (z ∷ zs) (inr p) (inl q) = inl (let e = p.0 in omega arith)
before_trans (x ∷ xs) (y ∷ ys) (z ∷ zs) (inr p) (inr q) = inr (p.0 ∙ q.0, before_trans xs ys zs p.1 q.1)

pub is_before_yes : (xs ys : List ℕ) → Before xs ys → is_before xs ys ≡ true
is_before_yes xs ys h = test_from_before xs ys h

pub is_before_no : (xs ys : List ℕ) → (Before xs ys → ⊥) → is_before xs ys ≡ false
is_before_no xs ys n = elim (cases_Bool (is_before xs ys)) [ inl e ↦ absurd (n (before_from_test xs ys e)) | inr e ↦ e ]
