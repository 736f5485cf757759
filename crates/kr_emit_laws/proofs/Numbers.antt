-- Numbers as literals write them.
use Rattle.std.proofs.Common.{◌≡◌, ℕ, suc, ◌-◌, ◌<◌, ◌≤◌, ◌⊎◌, inl, inr, Bool, true, refl, sym, ap, ◌∙◌, arith, subst}
use Rattle.std.specs.Prelude.{ℤ, pos, negsuc, neg_ℤ, nat_lt, ◌%◌, if◌then◌else◌}
use Rattle.std.proofs.lemmas.Bool.{cases_lt, le-ltb, lt-ltb, ltb-true}
use Rattle.kr_classes_table.specs.Numbers.{Width, Bits32, Bits64, half, is_within, wrap}

at_positive : (n s h : ℕ) → n < h → n % s ≡ n → (if nat_lt (n % s) h then pos (n % s) else negsuc (s - 1 - n % s)) ≡ pos n
at_positive n s h lt e = ap (λ (k : ℕ). let z : ℤ = if nat_lt k h then pos k else negsuc (s - 1 - k) in z) e ∙ ap (λ (b : Bool). let z : ℤ = if b then pos n else negsuc (s - 1 - n) in z) (lt-ltb n h lt)

at_negative : (n s h k : ℕ) → k ≡ s - 1 - n → h ≤ k → n < s → (if nat_lt k h then pos k else negsuc (s - 1 - k)) ≡ negsuc n
at_negative n s h k e le lt = ap (λ (b : Bool). let z : ℤ = if b then pos k else negsuc (s - 1 - k) in z) (le-ltb k h le) ∙ ap negsuc (omega (arith, e, lt))

-- a number of a width is left as it is
pub wrapped : (w : Width) (z : ℤ) → is_within w z ≡ true → wrap w z ≡ z
wrapped Bits32 (pos n) h = let lt : n < 2147483648 = ltb-true n 2147483648 h in at_positive n 4294967296 2147483648 lt (omega (arith, lt))
wrapped Bits64 (pos n) h = let lt : n < 9223372036854775808 = ltb-true n 9223372036854775808 h in at_positive n 18446744073709551616 9223372036854775808 lt (omega (arith, lt))
wrapped Bits32 (negsuc n) h = let lt : n < 2147483648 = ltb-true n 2147483648 h in at_negative n 4294967296 2147483648 (4294967295 - n % 4294967296) (omega (arith, lt)) (omega (arith, lt)) (omega (arith, lt))
wrapped Bits64 (negsuc n) h =
    let lt : n < 9223372036854775808 = ltb-true n 9223372036854775808 h in
    at_negative n 18446744073709551616 9223372036854775808 (18446744073709551615 - n % 18446744073709551616) (omega (arith, lt)) (omega (arith, lt)) (omega (arith, lt))

-- `-n` is the number, and so is the least of all, whose digits alone are too many
pub negated : (w : Width) (n : ℕ) → is_within w (negsuc n) ≡ true → wrap w (neg_ℤ (wrap w (pos (suc n)))) ≡ negsuc n
negated w n h = go (cases_lt (suc n) (half w))
  where
    least : (w : Width) (n : ℕ) → suc n ≡ half w → wrap w (neg_ℤ (wrap w (pos (suc n)))) ≡ negsuc n
    least Bits32 n e = let q : n ≡ 2147483647 = omega (arith, e) in subst (λ (k : ℕ). wrap Bits32 (neg_ℤ (wrap Bits32 (pos (suc k)))) ≡ negsuc k) (sym q) refl
    least Bits64 n e = let q : n ≡ 9223372036854775807 = omega (arith, e) in subst (λ (k : ℕ). wrap Bits64 (neg_ℤ (wrap Bits64 (pos (suc k)))) ≡ negsuc k) (sym q) refl

    go : (suc n < half w) ⊎ (half w ≤ suc n) → wrap w (neg_ℤ (wrap w (pos (suc n)))) ≡ negsuc n
    go (inl lt) = ap (λ (z : ℤ). wrap w (neg_ℤ z)) (wrapped w (pos (suc n)) (lt-ltb (suc n) (half w) lt)) ∙ wrapped w (negsuc n) h
    go (inr le) = least w n (omega (arith, le, ltb-true n (half w) h))
