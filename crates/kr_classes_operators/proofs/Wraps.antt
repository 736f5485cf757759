-- The numbers of the code, of 64 bits, against those of the definitions: bits of a width that wrap.
use Rattle.std.proofs.Common.{◌≡◌, ℕ, zero, suc, ◌-◌, ◌*◌, ◌%◌, ◌<◌, sym, ap, ◌∙◌, arith, refl, div-le_self}
use Rattle.std.specs.Prelude.{◌/◌, ◌^◌, ℤ, pos, negsuc, Bool, true, false, nat_lt, FitsSigned, if◌then◌else◌, ◌+ℤ◌, ◌-ℤ◌, ◌*ℤ◌, neg_ℤ, int_div}
use Rattle.std.specs.Int.{w32, w64, cast_signed, cast_unsigned, int_wrap, int_wrapping_add, int_wrapping_sub, int_wrapping_mul, int_wrapping_neg, int_wrapping_div, int_shr}
use Rattle.std.proofs.lemmas.Bool.{ltb-true, ltb-false}
use Rattle.std.proofs.lemmas.Int.{wrapping_add_is, wrapping_sub_is, wrapping_mul_is, wrapping_neg_is}
use Rattle.kr_classes_table.specs.Numbers.{Width, Bits32, Bits64, bits, complement, distance, shifted_right, span, whole_of, wrap}

pub whole_of_32 : (n : ℕ) → cast_signed w32 n ≡ whole_of Bits32 n
whole_of_32 n = ap (λ k. if nat_lt n 2147483648 then pos n else negsuc k) (omega arith)

pub low_bits_are : (z : ℤ) → FitsSigned w64 z → cast_unsigned w64 z % 4294967296 ≡ bits Bits32 z
low_bits_are (pos a) f = omega arith
low_bits_are (negsuc a) f = omega arith

pub whole_of_64 : (n : ℕ) → cast_signed w64 n ≡ whole_of Bits64 n
whole_of_64 n = ap (λ k. if nat_lt n 9223372036854775808 then pos n else negsuc k) (omega arith)

pub all_bits_are : (z : ℤ) → FitsSigned w64 z → cast_unsigned w64 z ≡ bits Bits64 z
all_bits_are (pos a) f = omega (arith, f.sfits)
all_bits_are (negsuc a) f = omega (arith, f.sfits)

-- what the 64-bit operators of the code leave
narrow_64 : (z : ℤ) → int_wrap w64 z ≡ wrap Bits64 z
unfolding int_wrap
narrow_64 (pos a) = whole_of_64 (a % 18446744073709551616)
narrow_64 (negsuc a) = whole_of_64 (18446744073709551615 - a % 18446744073709551616)

below_half : (n : ℕ) → n < 9223372036854775808 → whole_of Bits64 (n % 18446744073709551616) ≡ pos n
below_half n p = let e : n % 18446744073709551616 ≡ n = omega arith in ap (whole_of Bits64) e ∙ go (nat_lt n 9223372036854775808) refl
  where
    go : (b : Bool) → nat_lt n 9223372036854775808 ≡ b → (if b then pos n else negsuc (18446744073709551615 - n)) ≡ pos n
    go true e = refl
    go false e = absurd (omega (arith, ltb-false n 9223372036854775808 e))

above_half : (n : ℕ) → n < 9223372036854775808 → whole_of Bits64 (18446744073709551615 - n % 18446744073709551616) ≡ negsuc n
above_half n p = let e : 18446744073709551615 - n % 18446744073709551616 ≡ 18446744073709551615 - n = omega arith in ap (whole_of Bits64) e ∙ go (nat_lt (18446744073709551615 - n) 9223372036854775808) refl
  where
    go : (b : Bool) → nat_lt (18446744073709551615 - n) 9223372036854775808 ≡ b → (if b then pos (18446744073709551615 - n) else negsuc (18446744073709551615 - (18446744073709551615 - n))) ≡ negsuc n
    go true e = absurd (omega (arith, ltb-true (18446744073709551615 - n) 9223372036854775808 e))
    go false e = ap negsuc (omega arith)

-- a number of 64 bits is whole
pub whole_64 : (z : ℤ) → FitsSigned w64 z → z ≡ wrap Bits64 z
whole_64 (pos n) f = sym (below_half n (omega (arith, f.sfits)))
whole_64 (negsuc n) f = sym (above_half n (omega (arith, f.sfits)))

bits_by : (w : Width) (k : ℕ) (c : Bool) → k < 18446744073709551616 → bits w (if c then pos k else negsuc (18446744073709551615 - k)) ≡ k % span w
bits_by w k true p = refl
bits_by Bits32 k false p = omega arith
bits_by Bits64 k false p = omega arith

-- the lowest bits of a number of 64 bits
bits_of : (w : Width) (k : ℕ) → k < 18446744073709551616 → bits w (whole_of Bits64 k) ≡ k % span w
bits_of w k p = bits_by w k (nat_lt k 9223372036854775808) p

-- a number cut to 64 bits and then to a width is cut to the width
within_64 : (w : Width) (z : ℤ) → wrap w (wrap Bits64 z) ≡ wrap w z
within_64 Bits32 (pos n) = ap (whole_of Bits32) (bits_of Bits32 (n % 18446744073709551616) (omega arith) ∙ omega arith)
within_64 Bits32 (negsuc n) = ap (whole_of Bits32) (bits_of Bits32 (18446744073709551615 - n % 18446744073709551616) (omega arith) ∙ omega arith)
within_64 Bits64 (pos n) = ap (whole_of Bits64) (bits_of Bits64 (n % 18446744073709551616) (omega arith) ∙ omega arith)
within_64 Bits64 (negsuc n) = ap (whole_of Bits64) (bits_of Bits64 (18446744073709551615 - n % 18446744073709551616) (omega arith) ∙ omega arith)

-- ---- sums, differences, products

pub sum_wraps : (w : Width) (a b : ℤ) → FitsSigned w64 a → FitsSigned w64 b → wrap w (int_wrapping_add w64 a b) ≡ wrap w (a +ℤ b)
sum_wraps w a b f g = ap (wrap w) (wrapping_add_is w64 a b f g ∙ narrow_64 (a +ℤ b)) ∙ within_64 w (a +ℤ b)

pub difference_wraps : (w : Width) (a b : ℤ) → FitsSigned w64 a → FitsSigned w64 b → wrap w (int_wrapping_sub w64 a b) ≡ wrap w (a -ℤ b)
difference_wraps w a b f g = ap (wrap w) (wrapping_sub_is w64 a b f g ∙ narrow_64 (a -ℤ b)) ∙ within_64 w (a -ℤ b)

pub product_wraps : (w : Width) (a b : ℤ) → FitsSigned w64 a → FitsSigned w64 b → wrap w (int_wrapping_mul w64 a b) ≡ wrap w (a *ℤ b)
product_wraps w a b f g = ap (wrap w) (wrapping_mul_is w64 a b f g ∙ narrow_64 (a *ℤ b)) ∙ within_64 w (a *ℤ b)

pub negation_wraps : (w : Width) (a : ℤ) → FitsSigned w64 a → wrap w (int_wrapping_neg w64 a) ≡ wrap w (neg_ℤ a)
negation_wraps w a f = ap (wrap w) (wrapping_neg_is w64 a f ∙ narrow_64 (neg_ℤ a)) ∙ within_64 w (neg_ℤ a)

-- ---- quotients

-- a number below 2 ^ 64, which a cast cuts to 64 bits
cast_by : (w : Width) (n : ℕ) → n < 18446744073709551616 → wrap w (cast_signed w64 n) ≡ whole_of w (n % span w)
cast_by w n p = ap (wrap w) (whole_of_64 n) ∙ ap (whole_of w) (bits_of w n p)

positive_cast : (w : Width) (n : ℕ) → n < 18446744073709551616 → wrap w (cast_signed w64 (cast_unsigned w64 (pos n))) ≡ wrap w (pos n)
positive_cast w n p = cast_by w n p

negative_cast : (w : Width) (n : ℕ) → n < 18446744073709551616 → wrap w (cast_signed w64 (cast_unsigned w64 (negsuc n))) ≡ wrap w (negsuc n)
negative_cast Bits32 n p = cast_by Bits32 (18446744073709551616 - suc n) (omega arith) ∙ ap (whole_of Bits32) (omega arith)
negative_cast Bits64 n p = cast_by Bits64 (18446744073709551616 - suc n) (omega arith) ∙ ap (whole_of Bits64) (omega arith)

negated_cast : (w : Width) (n : ℕ) → n < 18446744073709551616 → wrap w (cast_signed w64 (cast_unsigned w64 (neg_ℤ (pos n)))) ≡ wrap w (neg_ℤ (pos n))
negated_cast w zero p = positive_cast w 0 p
negated_cast w (suc n) p = negative_cast w n (omega arith)

pub quotient_wraps : (w : Width) (a b : ℤ) → FitsSigned w64 a → wrap w (int_wrapping_div w64 a b) ≡ wrap w (int_div a b)
quotient_wraps w (pos a) (pos b) f = positive_cast w (a / b) (omega (arith, div-le_self a b, f.sfits))
quotient_wraps w (pos a) (negsuc b) f = negated_cast w (a / suc b) (omega (arith, div-le_self a (suc b), f.sfits))
quotient_wraps w (negsuc a) (pos b) f = negated_cast w (suc a / b) (omega (arith, div-le_self (suc a) b, f.sfits))
quotient_wraps w (negsuc a) (negsuc b) f = positive_cast w (suc a / suc b) (omega (arith, div-le_self (suc a) (suc b), f.sfits))

-- ---- bits

complement_bits : (w : Width) (a : ℤ) → span w - 1 - bits w a ≡ bits w (complement a)
complement_bits Bits32 (pos n) = omega arith
complement_bits Bits32 (negsuc n) = omega arith
complement_bits Bits64 (pos n) = omega arith
complement_bits Bits64 (negsuc n) = omega arith

pub complement_wraps : (w : Width) (a : ℤ) → whole_of w (span w - 1 - bits w a) ≡ wrap w (complement a)
complement_wraps w a = ap (whole_of w) (complement_bits w a)

-- ---- shifts

-- the code cuts a distance once more
pub low_distance : (w : Width) (b : ℤ) → distance w b % 64 ≡ distance w b
low_distance Bits32 b = omega arith
low_distance Bits64 b = omega arith

cut_32 : (b : ℤ) → distance Bits32 b % 32 ≡ distance Bits32 b
cut_32 b = omega arith

pub left_32 : (a b : ℤ) → bits Bits32 a * 2 ^ (distance Bits32 b % 32) % 4294967296 ≡ bits Bits32 a * 2 ^ distance Bits32 b % 4294967296
left_32 a b = ap (λ k. bits Bits32 a * 2 ^ k % 4294967296) (cut_32 b)

pub left_64 : (a b : ℤ) → bits Bits64 a * 2 ^ (distance Bits64 b % 64) % 18446744073709551616 ≡ bits Bits64 a * 2 ^ distance Bits64 b % 18446744073709551616
left_64 a b = ap (λ k. bits Bits64 a * 2 ^ k % 18446744073709551616) (low_distance Bits64 b)

pub right_32 : (a b : ℤ) → bits Bits32 a / 2 ^ (distance Bits32 b % 32) ≡ bits Bits32 a / 2 ^ distance Bits32 b
right_32 a b = ap (λ k. bits Bits32 a / 2 ^ k) (cut_32 b)

pub right_64 : (a b : ℤ) → bits Bits64 a / 2 ^ (distance Bits64 b % 64) ≡ bits Bits64 a / 2 ^ distance Bits64 b
right_64 a b = ap (λ k. bits Bits64 a / 2 ^ k) (low_distance Bits64 b)

shift_is : (w : Width) (a b : ℤ) → int_shr a (distance w b % 64) ≡ shifted_right a (distance w b)
shift_is w (pos m) b = ap (λ k. pos (m / 2 ^ k)) (low_distance w b)
shift_is w (negsuc m) b = ap (λ k. negsuc (m / 2 ^ k)) (low_distance w b)

pub shift_wraps : (w : Width) (a b : ℤ) → wrap w (int_shr a (distance w b % 64)) ≡ wrap w (shifted_right a (distance w b))
shift_wraps w a b = ap (wrap w) (shift_is w a b)
