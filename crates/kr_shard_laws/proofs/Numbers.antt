-- Numbers are written in one line.
use Rattle.std.proofs.Common.{◌≡◌, ℕ, zero, suc, ◌/◌, ◌%◌, ◌==◌, ℤ, Bool, true, false, List, [], ◌∷◌, refl, decimal, arith}
use Rattle.std.specs.Prelude.{pos, negsuc, if◌then◌else◌}
use Rattle.std.specs.Fmt.{digits, digits_onto, digit_glyph, signed_decimal}
use Rattle.std.proofs.lemmas.Bool.Decides.{nat_tests}
use Rattle.kr_text.specs.Splitting.{IsWithout}

-- no line feed in it
abbrev pub IsLine : List ℕ → Type 0
IsLine text = IsWithout 10 text

pub digit_line : (n : ℕ) → (digit_glyph false (n % 10) == 10) ≡ false
digit_line n = grind (arith, nat_tests)

either_line : (b : Bool) (x y : List ℕ) → IsLine x → IsLine y → IsLine (if b then x else y)
either_line true x y h k = h
either_line false x y h k = k

digits_line : (k n : ℕ) (acc : List ℕ) → IsLine acc → IsLine (digits_onto k 10 false n acc)
digits_line zero n acc h = h
digits_line (suc k) n acc h =
    let more = digit_glyph false (n % 10) ∷ acc in
    either_line (n / 10 == 0) more (digits_onto k 10 false (n / 10) more) (digit_line n, h) (digits_line k (n / 10) more (digit_line n, h))

pub number_line : (n : ℕ) → IsLine (decimal n)
unfolding digits
number_line n = digits_line 64 n [] tt

pub signed_line : (z : ℤ) → IsLine (signed_decimal z)
signed_line (pos n) = number_line n
signed_line (negsuc n) = (refl, number_line (suc n))
