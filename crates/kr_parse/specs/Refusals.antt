-- To be believed: when a parse is refused.
use Rattle.std.specs.Prelude.{◌≡◌, ℕ, ◌+◌, ◌<◌, ◌≤◌, Bool, true, false, if◌then◌else◌, List, [], ◌∷◌, ◌++◌, length, take, pred, slice_index_or}
use Rattle.kr_base.specs.declared.place.Place.{Place}
use Rattle.kr_base.specs.declared.refusal.RefusalAt.{RefusalAt}
use Rattle.kr_base.specs.declared.refusal.RefusalAt.TheVariants as refusals
use Rattle.kr_lex.specs.Lexemes.{Lexeme, Lexemes}
use Rattle.kr_lex.specs.Spelling.{is_outside_profile}
use Rattle.kr_lex.specs.declared.kind.Kind.{Kind}
use Rattle.kr_lex.specs.declared.kind.Kind.TheVariants as kinds
use Rattle.kr_ast.specs.Tree.{Tree}
use Rattle.kr_parse_grammar.specs.Grammar.{Derives}
use Rattle.kr_parse.specs.declared.refusal.ParseRule.{ParseRule}
use Rattle.kr_parse.specs.declared.refusal.ParseRule.TheVariants as rules

-- The token k is dead: no derivable file begins with the tokens through it. The end of input is a last token.
pub record IsDead (ts : List Lexeme) (k : ℕ) : Type 0 where
  pub within : k < length ts → (more : List Lexeme) (t : Tree) → Derives (take (k + 1) ts ++ more) t → ⊥
  pub end : k ≡ length ts → (t : Tree) → Derives ts t → ⊥

-- some derivable file begins with the tokens before k
abbrev pub IsViable : List Lexeme → ℕ → Type 0
IsViable ts k = (k ≤ length ts) × ((more : List Lexeme) × (t : Tree) × Derives (take k ts ++ more) t)

abbrev pub is_opening : Kind → Bool
is_opening kinds.LeftParenthesis = true
is_opening kinds.LeftBrace = true
is_opening kinds.LeftBracket = true
is_opening _ = false

abbrev pub is_closing : Kind → Bool
is_closing kinds.RightParenthesis = true
is_closing kinds.RightBrace = true
is_closing kinds.RightBracket = true
is_closing _ = false

-- the number of open brackets after the tokens, given n before them
abbrev pub open_behind : ℕ → List Lexeme → ℕ
open_behind n [] = n
open_behind n (a ∷ i) = open_behind (if is_opening a.kind then n + 1 else if is_closing a.kind then pred n else n) i

-- the token at an index, and after the last one a token of an irrelevant kind
abbrev pub token_at : Lexemes → ℕ → Lexeme
token_at ts k = slice_index_or ts.list k (record { kind = kinds.Semicolon; text = []; place = ts.end })

-- an opening bracket with 64 others open
abbrev pub IsTooNested : Lexemes → ℕ → Type 0
IsTooNested ts k = (k < length ts.list) × (is_opening (token_at ts k).kind ≡ true) × (64 ≤ open_behind 0 (take k ts.list))

-- no bracket before k is too deep
abbrev pub IsShallow : Lexemes → ℕ → Type 0
IsShallow ts k = (j : ℕ) → j < k → IsTooNested ts j → ⊥

-- the place of a token, the end of input being a last one
abbrev pub place_at : Lexemes → ℕ → Place
place_at ts k = (token_at ts k).place

-- a keyword that the language doesn't use
abbrev pub is_unsupported : Lexemes → ℕ → Bool
is_unsupported ts k = is_outside_profile (token_at ts k).kind

-- The least dead token, where no bracket before it is too deep.
pub record IsLeastDead (ts : Lexemes) (p : Place) (unsupported : Bool) : Type 0 where
  pub index : ℕ
  pub place : p ≡ place_at ts index
  pub dead : IsDead ts.list index
  pub viable : IsViable ts.list index
  pub shallow : IsShallow ts index
  pub kind : is_unsupported ts index ≡ unsupported

-- The first bracket that is too deep, where some derivable file begins with the tokens through it.
pub record IsFirstTooNested (ts : Lexemes) (p : Place) : Type 0 where
  pub index : ℕ
  pub place : p ≡ place_at ts index
  pub viable : IsViable ts.list (index + 1)
  pub nested : IsTooNested ts index
  pub shallow : IsShallow ts index

-- the rule that the tokens break first, and its place
abbrev pub IsUnparsed : Lexemes → Place → ParseRule → Type 0
IsUnparsed ts p rules.Syntax = IsLeastDead ts p false
IsUnparsed ts p rules.Unsupported = IsLeastDead ts p true
IsUnparsed ts p rules.TooNested = IsFirstTooNested ts p

-- memory may always run out
abbrev pub IsRefusal : Lexemes → RefusalAt ParseRule → Type 0
IsRefusal ts (refusals.Broken p rule) = IsUnparsed ts p rule
IsRefusal ts (refusals.NoMemory _) = Unit {0}

-- a tree is derived, and no bracket is too deep
pub record IsParsed (ts : Lexemes) (t : Tree) : Type 0 where
  pub derived : Derives ts.list t
  pub shallow : IsShallow ts (length ts.list)

-- tokens break at most one rule first, at one place
abbrev pub OneRefusal : Type 0
OneRefusal = (ts : Lexemes) (p q : Place) (r s : ParseRule) → IsUnparsed ts p r → IsUnparsed ts q s → (p ≡ q) × (r ≡ s)

-- tokens that have a tree break none
abbrev pub ParsedUnbroken : Type 0
ParsedUnbroken = (ts : Lexemes) (t : Tree) (p : Place) (r : ParseRule) → IsParsed ts t → IsUnparsed ts p r → ⊥
