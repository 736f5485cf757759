-- Between crates: the front of a text: the lengths of words and comments, the piece as a whole, and the parts of a
-- contract line.
use Rattle.std.specs.Prelude.{◌≡◌, ℕ, ◌+◌, ◌<◌, ◌≤◌, ◌⊎◌, Bool, true, false, List, ◌∷◌, ◌++◌, length, take, drop, slice_index}
use Rattle.std.specs.Char.{IsScalar, is_ascii_digit, encode_utf8}
use Rattle.std.specs.Str.{encode_utf8_all}
use Rattle.std.specs.List.{AllByRecursion}
use Rattle.kr_lex.specs.declared.kind.Kind.{Kind}
use Rattle.kr_lex.specs.declared.kind.Kind.TheVariants as kinds
use Rattle.kr_lex.specs.declared.contract.Head.{Head}
use Rattle.kr_lex.specs.declared.piece.Piece.{Piece}
use Rattle.kr_lex.specs.declared.piece.Piece.TheVariants as pieces
use Rattle.kr_lex.specs.Characters.{is_line_end, is_white, is_start, is_part, AllParts, EndsWord}
use Rattle.kr_lex.specs.Gaps.{EndsLine, IsGap, BeginsComment}
use Rattle.kr_lex.specs.Spelling.{spelling}
use Rattle.kr_lex.specs.ContractLines.{contract_spelling, is_blank, has_block, IsContractWord, IsContract}
use Rattle.kr_lex.specs.Spells.{IsTokenHere}
use Rattle.kr_lex.specs.Broken.{BreaksHere}

-- a character of that length that a name may go on with
pub record IsPart (text : List ℕ) (n : ℕ) : Type 0 where
  pub char : ℕ
  pub scalar : IsScalar char
  pub part : is_part char ≡ true
  pub spelled : text ≡ encode_utf8 char ++ drop n text
  pub within : n ≤ length text

-- the length of the character at the front if a name may continue with it, else 0
pub record IsPartLength (text : List ℕ) (n : ℕ) : Type 0 where
  pub some : 0 < n → IsPart text n
  pub none : n ≡ 0 → EndsWord text

-- the length of the longest run of such characters
pub record IsWordLength (text : List ℕ) (n : ℕ) : Type 0 where
  pub chars : List ℕ
  pub parts : AllParts chars
  pub spelled : take n text ≡ encode_utf8_all chars
  pub longest : EndsWord (drop n text)
  pub within : n ≤ length text

-- the length up to the line's end
pub record IsLineLength (text : List ℕ) (n : ℕ) : Type 0 where
  pub in_line : AllByRecursion (λ b. is_line_end b ≡ false) (take n text)
  pub through : EndsLine (drop n text)
  pub within : n ≤ length text

-- the length up to the first `*/`
pub record IsBodyLength (text : List ℕ) (n : ℕ) : Type 0 where
  pub closed : text ≡ take n text ++ 42 ∷ 47 ∷ drop (n + 2) text
  pub within : n + 2 ≤ length text
  pub first : (other more : List ℕ) → text ≡ other ++ 42 ∷ 47 ∷ more → n ≤ length other

abbrev pub IsNeverClosed : List ℕ → Type 0
IsNeverClosed text = (inner more : List ℕ) → text ≡ inner ++ 42 ∷ 47 ∷ more → ⊥

-- The longest token of one spelling at the front, and its length.
pub record IsLongestFixed (text : List ℕ) (kind : Kind) : Type 0 where
  pub some : 0 < length (spelling kind)
  pub spelled : text ≡ spelling kind ++ drop (length (spelling kind)) text
  pub longest : (other : Kind) (more : List ℕ) → 0 < length (spelling other) → text ≡ spelling other ++ more → length (spelling other) ≤ length (spelling kind)

abbrev pub BeginsNoFixed : List ℕ → Type 0
BeginsNoFixed text = (other : Kind) (more : List ℕ) → 0 < length (spelling other) → text ≡ spelling other ++ more → ⊥

abbrev pub IsNoFixed : List ℕ → Type 0
IsNoFixed word = (other : Kind) → word ≡ spelling other → ⊥

-- a character begins the text
pub record BeginsCharacter (text : List ℕ) : Type 0 where
  pub char : ℕ
  pub rest : List ℕ
  pub scalar : IsScalar char
  pub spelled : text ≡ encode_utf8 char ++ rest

-- a character that names start with begins the text
pub record StartsName (text : List ℕ) : Type 0 where
  pub char : ℕ
  pub rest : List ℕ
  pub scalar : IsScalar char
  pub starts : is_start char ≡ true
  pub spelled : text ≡ encode_utf8 char ++ rest

-- a character begins the text, and no gap, name or number does
pub record IsSymbolic (text : List ℕ) : Type 0 where
  pub character : BeginsCharacter text
  pub no_white : is_white (slice_index text 0) ≡ false
  pub no_digit : is_ascii_digit (slice_index text 0) ≡ false
  pub no_name : StartsName text → ⊥
  pub no_comment : BeginsComment text → ⊥

-- The piece at the front, inside or outside a contract line: a gap or a token with its length, or the rule that it
-- breaks.
abbrev pub IsPiece : Bool → List ℕ → Piece → Type 0
IsPiece inside text (pieces.Gap n) = (0 < n) × (n ≤ length text) × IsGap (take n text) (drop n text)
IsPiece inside text (pieces.Token kind n) = (0 < n) × (n ≤ length text) × IsTokenHere inside kind (take n text) (drop n text)
IsPiece inside text (pieces.Broken rule) = BreaksHere inside rule text

-- the text begins with a token that only contract lines have
pub record IsContractTokenAt (text : List ℕ) (kind : Kind) : Type 0 where
  pub one_of : (kind ≡ kinds.Result) ⊎ (kind ≡ kinds.Old)
  pub spelled : text ≡ contract_spelling kind ++ drop (length (contract_spelling kind)) text

-- the length of the blanks at the front
pub record IsBlankLength (text : List ℕ) (n : ℕ) : Type 0 where
  pub blank : AllByRecursion (λ b. is_blank b ≡ true) (take n text)
  pub longest : is_blank (slice_index (drop n text) 0) ≡ false
  pub within : n ≤ length text

-- the text begins with this word, as a whole word
pub record IsWordOf (text : List ℕ) (kind : Kind) : Type 0 where
  pub spelled : text ≡ contract_spelling kind ++ drop (length (contract_spelling kind)) text
  pub whole : EndsWord (drop (length (contract_spelling kind)) text)

-- a contract's word does
pub record IsWordAt (text : List ℕ) (kind : Kind) : Type 0 where
  pub word : IsContractWord kind
  pub stands : IsWordOf text kind

abbrev pub BeginsNoWord : List ℕ → Type 0
BeginsNoWord text = (kind : Kind) (rest : List ℕ) → IsContractWord kind → text ≡ contract_spelling kind ++ rest → EndsWord rest → ⊥

-- no `/*` within a line from here, nor from any index up to that length
abbrev pub IsClear : List ℕ → ℕ → Type 0
IsClear text n = (k : ℕ) → k ≤ n → has_block (drop k text) ≡ false

-- a contract line, and where its word begins and ends
pub record IsHead (text : List ℕ) (head : Head) : Type 0 where
  pub blank : List ℕ
  pub contract : IsContract text head.kind blank (drop head.end text)
  pub word : head.word ≡ 3 + length blank
  pub end : head.end ≡ head.word + length (contract_spelling head.kind)
  pub within : head.end ≤ length text

abbrev pub IsNoContract : List ℕ → Type 0
IsNoContract text = (kind : Kind) (blank rest : List ℕ) → IsContract text kind blank rest → ⊥
