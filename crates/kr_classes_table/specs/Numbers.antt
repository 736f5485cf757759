-- To be believed: whole numbers of a width: two's complement that wraps (Java Language Specification 4.2.2, 15.15 to 15.22).
use Rattle.std.specs.Prelude.{ℕ, ◌-◌, ◌/◌, ◌%◌, ◌^◌, ℤ, pos, negsuc, nat_lt, Bool, true, false, if◌then◌else◌}
pub use Rattle.kr_value.specs.declared.width.Width.{Width}
pub use Rattle.kr_value.specs.declared.width.Width.TheVariants.{Bits32, Bits64}

abbrev pub is_same_width : Width → Width → Bool
is_same_width Bits32 Bits32 = true
is_same_width Bits64 Bits64 = true
is_same_width v w = false

-- the width of the numbers of both
abbrev pub wider : Width → Width → Width
wider Bits32 w = w
wider Bits64 w = Bits64

abbrev pub size : Width → ℕ
size Bits32 = 32
size Bits64 = 64

-- how many numbers there are: 2 ^ size
abbrev pub span : Width → ℕ
span Bits32 = 4294967296
span Bits64 = 18446744073709551616

-- how many of them are not negative
abbrev pub half : Width → ℕ
half Bits32 = 2147483648
half Bits64 = 9223372036854775808

-- the bits of a number as a number below the span
abbrev pub bits : Width → ℤ → ℕ
bits w (pos n) = n % span w
bits w (negsuc n) = span w - 1 - n % span w

-- the whole number of these bits
abbrev pub whole_of : Width → ℕ → ℤ
whole_of w n = if nat_lt n (half w) then pos n else negsuc (span w - 1 - n)

abbrev pub wrap : Width → ℤ → ℤ
wrap w z = whole_of w (bits w z)

-- whether a number is one of the width
abbrev pub is_within : Width → ℤ → Bool
is_within w (pos n) = nat_lt n (half w)
is_within w (negsuc n) = nat_lt n (half w)

abbrev pub complement : ℤ → ℤ
complement (pos n) = negsuc n
complement (negsuc n) = pos n

-- the shift keeps the sign
abbrev pub shifted_right : ℤ → ℕ → ℤ
shifted_right (pos n) d = pos (n / 2 ^ d)
shifted_right (negsuc n) d = negsuc (n / 2 ^ d)

-- the low bits of a distance: five for 32 bits, six for 64 (15.19)
abbrev pub distance : Width → ℤ → ℕ
distance w z = bits w z % size w
