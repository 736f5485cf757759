-- To be believed: the lexical rules, and the first one that a source breaks.
use Rattle.std.specs.Prelude.{◌≡◌, ℕ, ◌<◌, ◌≤◌, ◌⊎◌, Bool, true, false, List, [], ◌∷◌, ◌++◌, length, slice_index}
use Rattle.std.specs.Char.{IsScalar, is_ascii_digit, encode_utf8}
use Rattle.std.specs.Str.{encode_utf8_all, IsValidUpTo}
use Rattle.kr_base.specs.declared.place.Place.{Place}
use Rattle.kr_base.specs.declared.refusal.RefusalAt.{RefusalAt}
use Rattle.kr_base.specs.declared.refusal.RefusalAt.TheVariants as refusals
use Rattle.kr_lex.specs.declared.kind.Kind.{Kind}
use Rattle.kr_lex.specs.declared.refusal.LexRule.{LexRule}
use Rattle.kr_lex.specs.declared.refusal.LexRule.TheVariants as rules
use Rattle.kr_lex.specs.Characters.{is_white, AllParts, EndsWord}
use Rattle.kr_lex.specs.Words.{IsNumber, IsLongNumber, IsToken}
use Rattle.kr_lex.specs.Lexemes.{Lexeme, Lexemes}
use Rattle.kr_lex.specs.Spells.{Reaches, AreTokens}
use Rattle.kr_lex.specs.ContractLines.{BeginsContract, IsContract, IsContractToken}
use Rattle.kr_lex.specs.Places.{place_after}

-- a backslash before `u`
abbrev pub BeginsEscape : List ℕ → Type 0
BeginsEscape (a ∷ b ∷ more) = (a ≡ 92) × (b ≡ 117)
BeginsEscape _ = ⊥

-- The text begins with a character that begins no token outside contract lines and is no white space. `\u` has a rule
-- of its own.
pub record IsStray (text : List ℕ) : Type 0 where
  pub char : ℕ
  pub more : List ℕ
  pub scalar : IsScalar char
  pub spelled : text ≡ encode_utf8 char ++ more
  pub no_token : (kind : Kind) (others rest : List ℕ) → IsToken kind (encode_utf8 char ++ others) rest → ⊥
  pub no_white : is_white char ≡ false
  pub no_escape : BeginsEscape text → ⊥

-- `/*` without a later `*/`
pub record IsUnclosed (text : List ℕ) : Type 0 where
  pub body : List ℕ
  pub spelled : text ≡ 47 ∷ 42 ∷ body
  pub unclosed : (inner more : List ℕ) → body ≡ inner ++ 42 ∷ 47 ∷ more → ⊥

-- a digit, where the longest run of characters of names is no number
pub record IsBadNumber (text : List ℕ) : Type 0 where
  pub chars : List ℕ
  pub rest : List ℕ
  pub spelled : text ≡ encode_utf8_all chars ++ rest
  pub digit : is_ascii_digit (slice_index text 0) ≡ true
  pub parts : AllParts chars
  pub longest : EndsWord rest
  pub bad : IsNumber (encode_utf8_all chars) → ⊥
  pub bad_long : IsLongNumber (encode_utf8_all chars) → ⊥

-- `//@`, and the line is no contract
pub record IsBadContract (text : List ℕ) : Type 0 where
  pub begins : BeginsContract text
  pub bad : (kind : Kind) (blank rest : List ℕ) → IsContract text kind blank rest → ⊥

-- in a contract line, the text begins with none of the tokens that only contract lines have
abbrev pub BeginsNoContractToken : Bool → List ℕ → Type 0
BeginsNoContractToken inside text = inside ≡ true → (kind : Kind) (part rest : List ℕ) → text ≡ part ++ rest → IsContractToken kind part → ⊥

-- The rule broken at a point where a token or a gap may begin, inside or outside a contract line.
abbrev pub BreaksHere : Bool → LexRule → List ℕ → Type 0
BreaksHere inside rules.NotUtf8 text = ⊥
BreaksHere inside rules.StrayCharacter text = IsStray text × BeginsNoContractToken inside text
BreaksHere inside rules.UnclosedComment text = IsUnclosed text
BreaksHere inside rules.BadNumber text = IsBadNumber text
BreaksHere inside rules.UnicodeEscape text = BeginsEscape text
BreaksHere inside rules.ContractLine text = IsBadContract text

-- The bytes break the rule right after `front`: it is the longest prefix that is UTF-8; or tokens and gaps lead there,
-- and the rest breaks the rule.
pub data Breaks (file : ℕ) (bytes front : List ℕ) (rule : LexRule) : Type 0 where
  encoding : (rest : List ℕ) → rule ≡ rules.NotUtf8 → bytes ≡ front ++ rest → IsValidUpTo bytes (length front) → Breaks file bytes front rule
  reached : (inside : Bool) (list : List Lexeme) (rest : List ℕ) → Reaches file false [] bytes list inside front rest → BreaksHere inside rule rest → Breaks file bytes front rule

-- the rules' order
abbrev pub rank : LexRule → ℕ
rank rules.NotUtf8 = 1
rank rules.StrayCharacter = 2
rank rules.UnclosedComment = 3
rank rules.BadNumber = 4
rank rules.UnicodeEscape = 5
rank rules.ContractLine = 6

-- The broken rule of the least place, and at that place the least rule.
pub record IsFirstBroken (file : ℕ) (bytes : List ℕ) (place : Place) (rule : LexRule) : Type 0 where
  pub front : List ℕ
  pub breaks : Breaks file bytes front rule
  pub at : place ≡ place_after file front
  pub least : (other : List ℕ) (r : LexRule) → Breaks file bytes other r → (length front < length other) ⊎ ((front ≡ other) × (rank rule ≤ rank r))

-- The cause of a refusal. Memory may run out at any time.
abbrev pub IsCause : ℕ → List ℕ → RefusalAt LexRule → Type 0
IsCause file bytes (refusals.Broken place rule) = IsFirstBroken file bytes place rule
IsCause file bytes (refusals.NoMemory _) = Unit {0}

-- a source that has a list of tokens breaks no rule
abbrev pub UnbrokenLaw : Type 0
UnbrokenLaw = (file : ℕ) (bytes front : List ℕ) (tokens : Lexemes) (rule : LexRule) → AreTokens file bytes tokens → Breaks file bytes front rule → ⊥
