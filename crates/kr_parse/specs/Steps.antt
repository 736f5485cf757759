-- Between crates: the invariant of the parser's loop, and the effect of a token on it.
use Rattle.std.specs.Prelude.{◌≡◌, ◌+◌, ◌≤◌, ℕ, pred, if◌then◌else◌, List, ◌∷◌, length, take, drop}
use Rattle.kr_lex.specs.Lexemes.{Lexeme, Lexemes}
use Rattle.kr_lex.specs.declared.kind.Kind.{Kind}
use Rattle.kr_parse_grammar.specs.declared.terminal.Terminal.TheVariants.{Identifier, Literal}
use Rattle.kr_parse_grammar.specs.declared.value.Form.TheVariants as forms
use Rattle.kr_parse_grammar.specs.declared.goal.Symbol.{Symbol}
use Rattle.kr_parse_grammar.specs.declared.goal.Symbol.TheVariants.{Take, Keep, Word, Literal as Leaf, Spell, Want, Build}
use Rattle.kr_parse_grammar.specs.Terminals.{terminal_of}
use Rattle.kr_parse_grammar.specs.Values.{StackItem, mark, word, part}
use Rattle.kr_parse_grammar.specs.Made.{literal}
use Rattle.kr_parse_grammar.specs.Machine.{ahead, spelling}
use Rattle.kr_parse_laws.specs.Laws.{Soundness, Completeness, SmallTrees, Productivity, Preservation, Termination}
use Rattle.kr_parse.specs.declared.cursor.Cursor.{Cursor}
use Rattle.kr_parse.specs.Refusals.{IsDead, IsViable, IsShallow, is_opening, is_closing, open_behind}

-- the theorems that the parser relies on
pub record AreLaws : Type 0 where
  pub sound : Soundness
  pub complete : Completeness
  pub small : SmallTrees
  pub taken : Productivity
  pub kept : Preservation
  pub falls : Termination

-- the symbol asks for a token, and this is one
abbrev pub IsAsked : Symbol → Lexeme → Type 0
IsAsked (Take k) a = terminal_of a.kind ≡ k
IsAsked (Keep k) a = terminal_of a.kind ≡ k
IsAsked Word a = terminal_of a.kind ≡ Identifier
IsAsked Leaf a = terminal_of a.kind ≡ Literal
IsAsked (Spell s) a = (terminal_of a.kind ≡ Identifier) × (a.text ≡ spelling s)
IsAsked (Want g) a = ⊥
IsAsked (Build m) a = ⊥

-- the symbol asks for a token
abbrev pub AsksToken : Symbol → Type 0
AsksToken (Want g) = ⊥
AsksToken (Build m) = ⊥
AsksToken _ = Unit {0}

-- the values after a token that the symbol asks for
abbrev pub kept_of : Symbol → Lexeme → List StackItem → List StackItem
kept_of (Keep k) a vs = mark a.kind a.place ∷ vs
kept_of Word a vs = word a.place a.text ∷ vs
kept_of Leaf a vs = part a.place forms.Other (literal a) ∷ vs
kept_of _ a vs = vs

-- the number of open brackets after a token, given those before it
abbrev pub depth_behind : Kind → ℕ → ℕ
depth_behind k n = if is_opening k then n + 1 else if is_closing k then pred n else n

-- the cursor has the terminal ahead and the number of open brackets, and none before it is too deep
pub record IsStanding (ts : Lexemes) (c : Cursor) : Type 0 where
  pub within : c.at ≤ length ts.list
  pub next : c.next ≡ ahead (drop c.at ts.list)
  pub depth : c.depth ≡ open_behind 0 (take c.at ts.list)
  pub shallow : IsShallow ts c.at

-- no derivable file continues with the token, and some does with those before it
pub record IsLeast (ts : Lexemes) (k : ℕ) : Type 0 where
  pub dead : IsDead ts.list k
  pub viable : IsViable ts.list k
  pub shallow : IsShallow ts k
