-- To be believed: tokens with their spelling and their place, as contracts see them.
use Rattle.std.specs.Prelude.{ℕ, List, [], slice_index_or}
use Rattle.std.specs.Str.Parse.{digits_value}
use Rattle.kr_base.specs.declared.place.Place.{Place}
use Rattle.kr_lex.specs.declared.kind.Kind.{Kind}
use Rattle.kr_lex.specs.declared.kind.Kind.TheVariants as kinds
use Rattle.kr_lex.specs.Words.{before_suffix}

-- a token: its kind, the bytes that spell it, and the place of its first character
pub record Lexeme : Type 0 where
  pub kind : Kind
  pub text : List ℕ
  pub place : Place

-- the tokens of a source, and the place after its last character
pub record Lexemes : Type 0 where
  pub list : List Lexeme
  pub end : Place

-- the token at an index of the list
abbrev pub lexeme_at : Lexemes → ℕ → Lexeme
lexeme_at ts i = slice_index_or ts.list i (record { kind = kinds.Identifier; text = []; place = ts.end })

-- the value of a number, from its decimal digits
abbrev pub number_value : List ℕ → ℕ
number_value digits = digits_value 10 digits

-- and of one with a suffix
abbrev pub long_number_value : List ℕ → ℕ
long_number_value text = number_value (before_suffix text)
