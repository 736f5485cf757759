-- To be believed: the lines of a text, the parts of a line, and the number or the bound that a part is.
use Rattle.std.specs.Prelude.{◌≡◌, ℕ, ◌^◌, ◌==◌, List, [], ◌∷◌, ◌++◌, Bool, true, false, ◌&&◌, codes, decimal, drop, flat_map, length, nat_lt, take, Option, Some, None, if◌then◌else◌}
use Rattle.std.specs.Str.{bytes_eq}
use Rattle.std.specs.Str.Parse.{digits_value}
use Rattle.std.specs.Option.{option_map}
use Rattle.kr_base.specs.declared.span.Bound.{Bound}
use Rattle.kr_base.specs.declared.span.Bound.TheVariants.{At, End}
use Rattle.kr_base.specs.Parsing.{cut_of}

-- a byte in front of the first of these lines; where there is none, the line that it is in doesn't end
abbrev pub onto : ℕ → List (List ℕ) → List (List ℕ)
onto b [] = []
onto b (line ∷ lines) = (b ∷ line) ∷ lines

-- the lines that end, each without its line feed
abbrev pub lines_in : List ℕ → List (List ℕ)
lines_in [] = []
lines_in (b ∷ bs) = if b == 10 then [] ∷ lines_in bs else onto b (lines_in bs)

-- a line with its line feed
abbrev pub ended : List ℕ → List ℕ
ended line = line ++ codes "\n"

-- what follows the lines that end
abbrev pub unended : List ℕ → List ℕ
unended text = drop (length (flat_map ended (lines_in text))) text

abbrev pub is_space : ℕ → Bool
is_space b = b == 32

-- what a text goes on with after another, where it begins with that
abbrev pub after_front : List ℕ → List ℕ → Option (List ℕ)
after_front front text = if bytes_eq (take (length front) text) front then Some (drop (length front) text) else None

abbrev pub is_empty : List ℕ → Bool
is_empty [] = true
is_empty (b ∷ bs) = false

-- the byte isn't in a text
abbrev pub IsWithout : ℕ → List ℕ → Type 0
IsWithout c [] = Unit {0}
IsWithout c (b ∷ bs) = ((b == c) ≡ false) × IsWithout c bs

-- the number below 2^64 whose decimal text this is
abbrev pub number_of : List ℕ → Option ℕ
number_of text = let n = digits_value 10 text in if bytes_eq (decimal n) text && nat_lt n (2 ^ 64) then Some n else None

-- `end`, or a cut
abbrev pub bound_of : List ℕ → Option Bound
bound_of word = if bytes_eq word (codes "end") then Some End else option_map At (cut_of word)
