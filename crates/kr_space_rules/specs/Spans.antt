-- Between crates: values as numbers: those of a stretch follow each other, and different values have different numbers.
use Rattle.std.specs.Prelude.{ℕ, ◌+◌, ◌-◌, ◌<◌, ◌||◌, ℤ, pos, negsuc, Bool, true, false, List, [], ◌∷◌, map, flat_map, nat_lt}
use Rattle.std.specs.List.{range_with_len}
use Rattle.kr_value.specs.declared.value.Value.{Value}
use Rattle.kr_value.specs.declared.value.Value.TheVariants.{Int, Bool as Truth, Null, Ref as Reference}
use Rattle.kr_mean.specs.Problem.{Choice}
use Rattle.kr_space_layout.specs.declared.stretch.Stretch.{Stretch}
use Rattle.kr_space_layout.specs.declared.stretch.Stretch.TheVariants.{Plain, Integers, Objects}
use Rattle.kr_space_rules.specs.declared.spans.Span.{Span}

-- an integer, counted from the least one of 64 bits on, after the numbers of all other values
abbrev pub shifted : ℤ → ℕ
shifted (pos n) = n + 9223372041149743107
shifted (negsuc n) = 9223372041149743106 - n

abbrev pub number_of : Value → ℕ
number_of Null = 0
number_of (Truth false) = 1
number_of (Truth true) = 2
number_of (Reference n) = n + 3
number_of (Int z) = shifted z

abbrev pub numbers_of : List Choice → List ℕ
numbers_of choices = map (λ c. number_of c.value) choices

-- the number of a stretch's first value
abbrev pub start_of : Stretch → ℕ
start_of (Plain v) = number_of v
start_of (Integers from to) = shifted from
start_of (Objects b) = b.first + 3

-- the numbers of some spans, one after another
abbrev pub covered : List Span → List ℕ
covered spans = flat_map (λ s. range_with_len s.start s.count) spans

-- not below the least integer of 64 bits
abbrev pub IsHigh : ℤ → Type 0
IsHigh (pos n) = Unit {0}
IsHigh (negsuc n) = n < 9223372036854775808

-- a value that is determined by its number
abbrev pub IsTold : Value → Type 0
IsTold (Int z) = IsHigh z
IsTold (Reference n) = n < 4294967296
IsTold v = Unit {0}

abbrev pub AreTold : Stretch → Type 0
AreTold (Plain v) = IsTold v
AreTold (Integers from to) = IsHigh from
AreTold (Objects b) = b.first + b.count < 4294967296

-- a span begins before the one in front of it ends
abbrev pub meet : Span → List Span → Bool
meet last [] = false
meet last (s ∷ ss) = nat_lt (s.start - last.start) last.count || meet s ss
