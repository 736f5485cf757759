-- Between crates: how far a source has been read.
use Rattle.std.specs.Prelude.{◌≡◌, ℕ, ◌+◌, ◌-◌, ◌<◌, ◌≤◌, ◌⊎◌, false, List, [], ◌∷◌, ◌++◌, length, take, drop, map}
use Rattle.std.specs.Str.{IsUtf8, IsValidUpTo}
use Rattle.kr_base.specs.declared.refusal.RefusalAt.{RefusalAt}
use Rattle.kr_base.specs.declared.refusal.RefusalAt.TheVariants as refusals
use Rattle.kr_lex.specs.declared.contract.Head.{Head}
use Rattle.kr_lex.specs.declared.cursor.Cursor.{Cursor}
use Rattle.kr_lex.specs.declared.kind.Kind.{Kind}
use Rattle.kr_lex.specs.declared.kind.Kind.TheVariants as kinds
use Rattle.kr_lex.specs.declared.progress.Progress.{Progress}
use Rattle.kr_lex.specs.declared.token.Token.{Token}
use Rattle.kr_lex.specs.declared.refusal.LexRule.{LexRule}
use Rattle.kr_lex.specs.declared.refusal.LexRule.TheVariants as rules
use Rattle.kr_lex.specs.ContractLines.{has_block}
use Rattle.kr_lex.specs.Cursors.{Stands}
use Rattle.kr_lex.specs.Entries.{AreEntries, lexeme_of}
use Rattle.kr_lex.specs.Places.{place_after}
use Rattle.kr_lex.specs.Spells.{Reaches}

-- the length of the longest front that is UTF-8: the whole, or less
abbrev pub IsValidLength : List ℕ → ℕ → Type 0
IsValidLength bytes n = ((n ≡ length bytes) × IsUtf8 bytes) ⊎ IsValidUpTo bytes n

-- no `/*` within a line from any index between two
abbrev pub IsClearBetween : List ℕ → ℕ → ℕ → Type 0
IsClearBetween bytes from to = (k : ℕ) → from ≤ k → k < to → has_block (drop k bytes) ≡ false

-- The entries represent the tokens up to the cursor, where a token or a gap may begin.
pub record IsReading (file : ℕ) (bytes : List ℕ) (valid : ℕ) (items : List Token) (progress : Progress) : Type 0 where
  pub stands : Stands bytes progress.cursor
  pub before : progress.cursor.at ≤ valid
  pub reached : Reaches file false [] bytes (map (lexeme_of file bytes) items) progress.inside (take progress.cursor.at bytes) (drop progress.cursor.at bytes)
  pub entries : AreEntries bytes items
  pub clear : IsClearBetween bytes progress.cursor.at progress.clear

-- the state after a piece of that length
pub record IsPassed (bytes : List ℕ) (valid : ℕ) (progress : Progress) (n : ℕ) (next : Progress) : Type 0 where
  pub at : next.cursor.at ≡ progress.cursor.at + n
  pub stands : Stands bytes next.cursor
  pub before : next.cursor.at ≤ valid
  pub inside : next.inside ≡ progress.inside
  pub clear : next.clear ≡ progress.clear

-- the bytes stop being UTF-8 before an index
pub record IsPast (file : ℕ) (bytes : List ℕ) (valid end : ℕ) (refusal : RefusalAt LexRule) : Type 0 where
  pub at : refusal ≡ refusals.Broken (place_after file (take valid bytes)) rules.NotUtf8
  pub before : valid < end

-- the entry of a token of that length at a cursor
pub record IsEntryAt (cursor : Cursor) (kind : Kind) (n : ℕ) (t : Token) : Type 0 where
  pub kind_is : t.kind ≡ kind
  pub line_is : t.line ≡ cursor.line
  pub col_is : t.col + cursor.origin ≡ cursor.at + 1
  pub start_is : t.start ≡ cursor.at
  pub end_is : t.end ≡ cursor.at + n

-- the entries of a contract line's mark and its word, after the earlier ones
pub record ArePushed (bytes : List ℕ) (cursor : Cursor) (head : Head) (before after : List Token) : Type 0 where
  pub mark : Token
  pub word : Token
  pub there : Cursor
  pub stands : Stands bytes there
  pub at : there.at ≡ cursor.at + head.word
  pub mark_is : IsEntryAt cursor kinds.Contract 3 mark
  pub word_is : IsEntryAt there head.kind (head.end - head.word) word
  pub items : after ≡ before ++ mark ∷ word ∷ []
