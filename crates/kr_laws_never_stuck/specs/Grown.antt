-- Between crates: files that were read: trees of the tokens that spell them.
use Rattle.std.specs.Prelude.{◌≡◌, ℕ, ◌+◌, List, [], ◌∷◌}
use Rattle.kr_lex.specs.Lexemes.{Lexeme}
use Rattle.kr_lex.specs.Spells.{Spells}
use Rattle.kr_ast.specs.Tree.{Tree}
use Rattle.kr_parse_grammar.specs.Grammar.{Derives}
use Rattle.kr_classes_table.specs.Predefined.{predefined}

-- the tree of a file of a number
pub record IsGrown (number : ℕ) (bytes : List ℕ) (file : Tree) : Type 0 where
  pub tokens : List Lexeme
  pub spelled : Spells number bytes tokens
  pub derived : Derives tokens file

-- those of several files, numbered in their order
abbrev pub AreGrown : ℕ → List (List ℕ) → List Tree → Type 0
AreGrown n [] [] = Unit {0}
AreGrown n (bytes ∷ sources) (file ∷ files) = IsGrown n bytes file × AreGrown (n + 1) sources files
AreGrown n sources files = ⊥

-- the trees of a program: of the predefined classes, and of its sources
abbrev pub AreProgram : List (List ℕ) → List Tree → Type 0
AreProgram sources [] = ⊥
AreProgram sources (tree ∷ files) = (tree ≡ predefined) × AreGrown 0 sources files
