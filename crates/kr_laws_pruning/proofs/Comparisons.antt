-- Comparisons of numbers, as the operators on constants have them.
use Rattle.std.proofs.Common.{◌≡◌, ℕ, ◌<◌, ◌≤◌, ◌⊎◌, inl, inr, Bool, true, false, refl, sym, ap, ◌∙◌, arith, subst}
use Rattle.std.specs.Prelude.{ℤ, pos, negsuc, not, int_lt, int_le, nat_lt, ◌%◌, Ok}
use Rattle.std.specs.Ordering.{int_eq}
use Rattle.kr_ast.specs.declared.node.BinaryOperator.{BinaryOperator}
use Rattle.kr_ast.specs.declared.node.BinaryOperator.TheVariants.{Less, LessOrEqual, Greater, GreaterOrEqual, Equal, NotEqual}
use Rattle.kr_value.specs.declared.value.Value.TheVariants.{Int, Bool as Truth}
use Rattle.kr_classes_table.specs.Operators.{of_wholes, is_equal}
use Rattle.kr_classes_table.specs.Numbers.{Width, Bits32, wrap}
use Rattle.kr_mean.specs.Operators.{is_comparison, holds_of}
use Rattle.std.proofs.Math.Dec.{leb}
use Rattle.std.proofs.Math.Nat.{mod-eq_of_lt}
use Rattle.std.proofs.lemmas.Bool.{cases_lt, lt-leb, le-leb, lt-ltb, le-ltb, leb-true, and_parts}
use Rattle.std.proofs.lemmas.Bool.Decides.{Decides-int_eq}

not_above : (m n : ℕ) → leb m n ≡ not (nat_lt n m)
not_above m n = go (cases_lt n m)
  where
    go : (n < m) ⊎ (m ≤ n) → leb m n ≡ not (nat_lt n m)
    go (inl h) = lt-leb m n h ∙ sym (ap not (lt-ltb n m h))
    go (inr h) = le-leb m n h ∙ sym (ap not (le-ltb n m h))

le_is : (a b : ℤ) → int_le a b ≡ not (int_lt b a)
le_is (pos m) (pos n) = not_above m n
le_is (pos m) (negsuc n) = refl
le_is (negsuc m) (pos n) = refl
le_is (negsuc m) (negsuc n) = not_above n m

not_both : (a b : ℤ) → is_equal a b ≡ true → a ≡ b
not_both (pos m) (pos n) e = let p = and_parts (leb m n) (leb n m) e in ap (λ (k : ℕ). pos k) (omega (arith, leb-true m n p.0, leb-true n m p.1))
not_both (pos m) (negsuc n) e = absurd (cc (e))
not_both (negsuc m) (pos n) e = absurd (cc (e))
not_both (negsuc m) (negsuc n) e = let p = and_parts (leb n m) (leb m n) e in ap (λ (k : ℕ). negsuc k) (omega (arith, leb-true n m p.0, leb-true m n p.1))

self_equal : (a : ℤ) → is_equal a a ≡ true
self_equal (pos m) = rw (le-leb m m (omega arith)) refl
self_equal (negsuc m) = rw (le-leb m m (omega arith)) refl

eq_is : (a b : ℤ) → is_equal a b ≡ int_eq a b
eq_is a b = go (is_equal a b) refl (int_eq a b) refl
  where
    go : (x : Bool) → is_equal a b ≡ x → (y : Bool) → int_eq a b ≡ y → is_equal a b ≡ int_eq a b
    go true p true q = p ∙ sym q
    go false p false q = p ∙ sym q
    go true p false q = let same : a ≡ b = not_both a b p in let k = (Decides-int_eq a b).1 same in absurd (cc (q, k))
    go false p true q = let same : a ≡ b = (Decides-int_eq a b).0 q in let k : is_equal a b ≡ true = subst (λ (x : ℤ). is_equal a x ≡ true) same (self_equal a) in absurd (cc (p, k))

pub small_is : (n : ℕ) → n ≤ 2147483647 → wrap Bits32 (pos n) ≡ pos n
small_is n h =
    let m : n % 4294967296 ≡ n = mod-eq_of_lt (omega (arith, h)) in
    let l : nat_lt n 2147483648 ≡ true = lt-ltb n 2147483648 (omega (arith, h)) in
    rw (m, l) refl

pub compared : (width : Width) (test : BinaryOperator) (a b : ℤ) → is_comparison test ≡ true → of_wholes width test a b ≡ Ok (Truth (holds_of test (Int a) (Int b)))
compared width Less a b e = refl
compared width Greater a b e = refl
compared width LessOrEqual a b e = ap (λ x. Ok (Truth x)) (le_is a b)
compared width GreaterOrEqual a b e = ap (λ x. Ok (Truth x)) (le_is b a)
compared width Equal a b e = ap (λ x. Ok (Truth x)) (eq_is a b)
compared width NotEqual a b e = ap (λ x. Ok (Truth (not x))) (eq_is a b)
compared width _ a b e = absurd (cc (e))
