-- Between crates: the entries of a token list, and the tokens that they represent.
use Rattle.std.specs.Prelude.{◌≡◌, ℕ, ◌≤◌, ◌-◌, List, length, take, drop, map}
use Rattle.std.specs.List.{All}
use Rattle.kr_base.specs.declared.place.Place.{Place}
use Rattle.kr_lex.specs.declared.kind.Kind.TheVariants as kinds
use Rattle.kr_lex.specs.declared.token.Token.{Token}
use Rattle.kr_lex.specs.Lexemes.{Lexeme, Lexemes}
use Rattle.kr_lex.specs.Words.{IsNumber, IsLongNumber}

-- the bytes that spell an entry's token
abbrev pub text_of : List ℕ → Token → List ℕ
text_of source t = take (t.end - t.start) (drop t.start source)

-- the token of an entry, in a source of that number
abbrev pub lexeme_of : ℕ → List ℕ → Token → Lexeme
lexeme_of file source t = record { kind = t.kind; text = text_of source t; place = record { file = file; line = t.line; col = t.col } }

abbrev pub shown : Place → List ℕ → List Token → Lexemes
shown end source ts = record { list = map (lexeme_of end.file source) ts; end = end }

-- an entry's bytes are in the source, and are a number, without or with a suffix, if its kind says so
pub record IsEntry (source : List ℕ) (t : Token) : Type 0 where
  pub ordered : t.start ≤ t.end
  pub within : t.end ≤ length source
  pub number : t.kind ≡ kinds.Number → IsNumber (text_of source t)
  pub long_number : t.kind ≡ kinds.LongNumber → IsLongNumber (text_of source t)

abbrev pub AreEntries : List ℕ → List Token → Type 0
AreEntries source ts = All (IsEntry source) ts
