-- The order of keys, by cases.
use Rattle.std.proofs.Common.{◌≡◌, ℕ, ◌⊎◌, inl, inr, List, true, false}
use Rattle.std.proofs.lemmas.Bool.{cases_Bool}
use Rattle.kr_base.specs.Cuts.{Before, is_before}
use Rattle.kr_base.proofs.Orders.{before_from_test, test_from_before, test_irreflexive, test_transitive, test_connected}

pub is_before_yes : (a b : List ℕ) → Before a b → is_before a b ≡ true
is_before_yes a b h = test_from_before a b h

pub is_before_no : (a b : List ℕ) → (Before a b → ⊥) → is_before a b ≡ false
is_before_no a b n = elim (cases_Bool (is_before a b)) [ inl e ↦ absurd (n (before_from_test a b e)) | inr e ↦ e ]

pub tested : (a b : List ℕ) → (Before a b × (is_before a b ≡ true)) ⊎ ((Before a b → ⊥) × (is_before a b ≡ false))
tested a b = elim (cases_Bool (is_before a b)) [ inl e ↦ inl (before_from_test a b e, e) | inr e ↦ inr (λ h. absurd (let t = test_from_before a b h in cc), e) ]

pub before_not_self : (a : List ℕ) → Before a a → ⊥
before_not_self a h = let t = test_from_before a a h in let f = test_irreflexive a in cc

pub before_trans : (a b c : List ℕ) → Before a b → Before b c → Before a c
before_trans a b c p q = before_from_test a c (test_transitive a b c (test_from_before a b p) (test_from_before b c q))

pub connected : (a b : List ℕ) → (Before a b → ⊥) → (Before b a → ⊥) → a ≡ b
connected a b p q = test_connected a b (is_before_no a b p) (is_before_no b a q)
