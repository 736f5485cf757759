-- To be believed: which tokens spell a source (Java Language Specification 3.2 and 3.5), with the contract lines in it.
use Rattle.std.specs.Prelude.{◌≡◌, ℕ, ◌≤◌, Bool, true, false, not, ◌&&◌, List, [], ◌∷◌, ◌++◌, length, slice_index}
use Rattle.std.specs.Str.{IsUtf8}
use Rattle.kr_lex.specs.declared.kind.Kind.{Kind}
use Rattle.kr_lex.specs.declared.kind.Kind.TheVariants as kinds
use Rattle.kr_lex.specs.Characters.{is_line_end}
use Rattle.kr_lex.specs.ContractLines.{contract_spelling, head_of, IsContract, IsContractToken}
use Rattle.kr_lex.specs.Lexemes.{Lexeme, Lexemes}
use Rattle.kr_lex.specs.Words.{IsToken}
use Rattle.kr_lex.specs.Gaps.{IsGap, BeginsComment}
use Rattle.kr_lex.specs.Places.{place_after}

-- The text, before the rest, is the longest token there, and no comment begins there.
pub record IsLongest (kind : Kind) (text rest : List ℕ) : Type 0 where
  pub token : IsToken kind text rest
  pub longest : (other : Kind) (longer more : List ℕ) → text ++ rest ≡ longer ++ more → IsToken other longer more → length longer ≤ length text
  pub no_comment : BeginsComment (text ++ rest) → ⊥

-- The text, before the rest, is the token there, inside or outside a contract line.
pub data IsTokenHere (inside : Bool) (kind : Kind) (text rest : List ℕ) : Type 0 where
  anywhere : IsLongest kind text rest → IsTokenHere inside kind text rest
  within : inside ≡ true → IsContractToken kind text → IsTokenHere inside kind text rest

-- a contract line goes on up to its line's end
abbrev pub stays : Bool → List ℕ → Bool
stays inside text = inside && not (is_line_end (slice_index text 0))

-- the token of a text after a front
abbrev pub token_behind : ℕ → List ℕ → Kind → List ℕ → Lexeme
token_behind file front kind text = record { kind = kind; text = text; place = place_after file front }

-- After a front, inside or outside a contract line, these tokens, with gaps before, between and after them, lead from
-- one text to a rest of it.
pub data Reaches (file : ℕ) : Bool → List ℕ → List ℕ → List Lexeme → Bool → List ℕ → List ℕ → Type 0 where
  here : {inside : Bool} {front text : List ℕ} → Reaches file inside front text [] inside front text
  gap : {inside last : Bool} {front text end left : List ℕ} {list : List Lexeme} (part rest : List ℕ) → text ≡ part ++ rest → IsGap part rest
      → Reaches file (stays inside text) (front ++ part) rest list last end left → Reaches file inside front text list last end left
  token : {inside last : Bool} {front text end left : List ℕ} {list : List Lexeme} (kind : Kind) (part rest : List ℕ) → text ≡ part ++ rest → IsTokenHere inside kind part rest
      → Reaches file inside (front ++ part) rest list last end left
      → Reaches file inside front text (token_behind file front kind part ∷ list) last end left
  contract : {inside last : Bool} {front text end left : List ℕ} {list : List Lexeme} (kind : Kind) (blank rest : List ℕ) → IsContract text kind blank rest
      → Reaches file true (front ++ head_of kind blank) rest list last end left
      → Reaches file inside front text
      (token_behind file front kinds.Contract (47 ∷ 47 ∷ 64 ∷ []) ∷ token_behind file (front ++ 47 ∷ 47 ∷ 64 ∷ blank) kind (contract_spelling kind) ∷ list) last end left

-- The tokens spell the whole text.
abbrev pub Spells : ℕ → List ℕ → List Lexeme → Type 0
Spells file bytes list = (inside : Bool) × Reaches file false [] bytes list inside bytes []

-- The tokens are those of a UTF-8 source, and the end is the place after its last character.
pub record AreTokens (file : ℕ) (bytes : List ℕ) (tokens : Lexemes) : Type 0 where
  pub utf8 : IsUtf8 bytes
  pub spelled : Spells file bytes tokens.list
  pub end : tokens.end ≡ place_after file bytes

-- at most one list of tokens spells a text
abbrev pub OneListLaw : Type 0
OneListLaw = (file : ℕ) (bytes : List ℕ) (a b : List Lexeme) → Spells file bytes a → Spells file bytes b → a ≡ b
