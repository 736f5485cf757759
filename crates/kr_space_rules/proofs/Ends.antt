-- The ends of numbers of a width.
use Rattle.std.proofs.Common.{◌≡◌, ℕ, ◌<◌, ◌≤◌, ◌⊎◌, inl, inr, true, sym, ◌∙◌, arith}
use Rattle.std.specs.Prelude.{ℤ, pos, negsuc, ◌&&◌, int_le, nat_lt, FitsSigned}
use Rattle.std.specs.Int.{w64}
use Rattle.std.proofs.Math.Dec.{leb}
use Rattle.std.proofs.lemmas.Bool.{cases_lt, lt-ltb, le-ltb, lt-leb, le-leb}
use Rattle.kr_classes_table.specs.Numbers.{Bits32, Bits64, is_within}

up_to : (n : ℕ) → leb n 2147483647 ≡ nat_lt n 2147483648
up_to n = go (cases_lt n 2147483648)
  where
    go : (n < 2147483648) ⊎ (2147483648 ≤ n) → leb n 2147483647 ≡ nat_lt n 2147483648
    go (inl h) = le-leb n 2147483647 (omega (arith, h)) ∙ sym (lt-ltb n 2147483648 h)
    go (inr h) = lt-leb n 2147483647 (omega (arith, h)) ∙ sym (le-ltb n 2147483648 h)

pub int_ends : (z : ℤ) → (int_le (negsuc 2147483647) z && int_le z (pos 2147483647)) ≡ is_within Bits32 z
int_ends (pos n) = up_to n
int_ends (negsuc n) = grind (arith, up_to n)

pub long_ends : (z : ℤ) → FitsSigned w64 z → true ≡ is_within Bits64 z
long_ends (pos n) f = sym (lt-ltb n 9223372036854775808 (omega (arith, f.sfits)))
long_ends (negsuc n) f = sym (lt-ltb n 9223372036854775808 (omega (arith, f.sfits)))
