-- Between crates: the theorems on the grammar and its machine.
use Rattle.std.specs.Prelude.{◌≡◌, ◌+◌, ◌*◌, ◌<◌, ◌≤◌, List, [], ◌∷◌, ◌++◌, Some, length}
use Rattle.kr_base.specs.declared.place.Place.{Place}
use Rattle.kr_lex.specs.Lexemes.{Lexeme}
use Rattle.kr_ast.specs.Tree.{Tree, size}
use Rattle.kr_parse_grammar.specs.declared.terminal.Terminal.{Terminal}
use Rattle.kr_parse_grammar.specs.declared.value.Tag.{Tag}
use Rattle.kr_parse_grammar.specs.declared.value.Form.{Form}
use Rattle.kr_parse_grammar.specs.declared.goal.Goal.{Goal}
use Rattle.kr_parse_grammar.specs.declared.goal.Symbol.{Symbol}
use Rattle.kr_parse_grammar.specs.declared.goal.Symbol.TheVariants.{Want}
use Rattle.kr_parse_grammar.specs.Values.{StackItem, part}
use Rattle.kr_parse_grammar.specs.Grammar.{Derives}
use Rattle.kr_parse_grammar.specs.Machine.{Runs, rule, start}
use Rattle.kr_parse_grammar.specs.State.{Good, load}

-- a list of tokens has at most one tree
abbrev pub OneTree : Type 0
OneTree = (i : List Lexeme) (t u : Tree) → Derives i t → Derives i u → t ≡ u

-- a tree has at most three nodes for each token, and one more
abbrev pub SmallTrees : Type 0
SmallTrees = (i : List Lexeme) (t : Tree) → Derives i t → size t ≤ 3 * length i + 1

-- tokens that the machine accepts are derivable
abbrev pub Soundness : Type 0
Soundness = (i : List Lexeme) (ws : List StackItem) → Runs start [] i ws → (p : Place) × (f : Form) × (t : Tree) × (ws ≡ part p f t ∷ []) × Derives i t

-- the machine accepts derivable tokens
abbrev pub Completeness : Type 0
Completeness = (i : List Lexeme) (t : Tree) → Derives i t → (p : Place) × (f : Form) × Runs start [] i (part p f t ∷ [])

-- good symbols can be taken, whatever the values are
abbrev pub Productivity : Type 0
Productivity = (ss : List Symbol) (vs : List StackItem) → Good ss → (i : List Lexeme) × (ws : List StackItem) × Runs ss vs i ws

-- a rule keeps a good stack good
abbrev pub Preservation : Type 0
Preservation = (g : Goal) (k : Terminal) (q : Tag) (body ss : List Symbol) → rule g k q ≡ Some body → Good (Want g ∷ ss) → Good (body ++ ss)

-- a rule makes the stack lighter
abbrev pub Termination : Type 0
Termination = (g : Goal) (k : Terminal) (q : Tag) (body ss : List Symbol) → rule g k q ≡ Some body → load (body ++ ss) < load (Want g ∷ ss)
