-- To be believed: names and numbers (Java Language Specification 3.8 and 3.10.1).
use Rattle.std.specs.Prelude.{◌≡◌, ℕ, ◌-◌, ◌<◌, ◌≤◌, ◌⊎◌, List, ◌++◌, length, slice_index, take, true}
use Rattle.std.specs.Char.{IsScalar, encode_utf8}
use Rattle.std.specs.Str.{encode_utf8_all}
use Rattle.std.specs.Str.Parse.{AllDigits, digits_value}
use Rattle.kr_lex.specs.declared.kind.Kind.{Kind}
use Rattle.kr_lex.specs.declared.kind.Kind.TheVariants as kinds
use Rattle.kr_lex.specs.Characters.{is_start, AllParts, EndsWord}
use Rattle.kr_lex.specs.Spelling.{spelling}

-- a character that starts names, and then characters that may go on
pub record IsName (text : List ℕ) : Type 0 where
  pub first : ℕ
  pub others : List ℕ
  pub scalar : IsScalar first
  pub starts : is_start first ≡ true
  pub parts : AllParts others
  pub spelled : text ≡ encode_utf8 first ++ encode_utf8_all others

-- ASCII digits, without a leading zero, of a value up to a limit
pub record IsNumberTo (limit : ℕ) (text : List ℕ) : Type 0 where
  pub some : 0 < length text
  pub digits : AllDigits 10 text
  pub no_leading_zero : slice_index text 0 ≡ 48 → length text ≡ 1
  pub within : digits_value 10 text ≤ limit

-- of a value that fits an `int` after a minus sign
abbrev pub IsNumber : List ℕ → Type 0
IsNumber text = IsNumberTo 2147483648 text

-- the number that `l` or `L` ends
abbrev pub before_suffix : List ℕ → List ℕ
before_suffix text = take (length text - 1) text

abbrev pub IsSuffix : ℕ → Type 0
IsSuffix b = (b ≡ 76) ⊎ (b ≡ 108)

-- `L` or `l` after a number whose value fits a `long` after a minus sign
pub record IsLongNumber (text : List ℕ) : Type 0 where
  pub some : 0 < length text
  pub suffix : IsSuffix (slice_index text (length text - 1))
  pub number : IsNumberTo 9223372036854775808 (before_suffix text)

-- A text, before the rest, may be a token of this kind: a name that is no other token, a number that the rest
-- doesn't go on with, or the one spelling of its kind.
pub data IsToken (kind : Kind) (text rest : List ℕ) : Type 0 where
  name : kind ≡ kinds.Identifier → IsName text → ((other : Kind) → text ≡ spelling other → ⊥) → IsToken kind text rest
  number : kind ≡ kinds.Number → IsNumber text → EndsWord rest → IsToken kind text rest
  long_number : kind ≡ kinds.LongNumber → IsLongNumber text → EndsWord rest → IsToken kind text rest
  fixed : 0 < length text → text ≡ spelling kind → IsToken kind text rest
