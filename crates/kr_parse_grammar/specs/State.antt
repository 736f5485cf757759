-- Between crates: the state of a parse: what the tokens so far leave to be taken.
use Rattle.std.specs.Prelude.{◌≡◌, ℕ, ◌+◌, ◌≤◌, Bool, true, false, List, [], ◌∷◌, ◌++◌, Option, Some, None, length, take, drop}
use Rattle.kr_lex.specs.Lexemes.{Lexeme}
use Rattle.kr_parse_grammar.specs.declared.terminal.Terminal.{Terminal}
use Rattle.kr_parse_grammar.specs.declared.terminal.Terminal.TheVariants.{End, Identifier, Literal, Primitive, Class, Void, Else, Catch, LeftParenthesis, RightParenthesis, LeftBrace, RightBrace, LeftBracket, RightBracket, Semicolon, Comma, Colon, Greater, Step, Requires, Outside}
use Rattle.kr_parse_grammar.specs.declared.goal.Goal.{Goal}
use Rattle.kr_parse_grammar.specs.declared.goal.Goal.TheVariants as goals
use Rattle.kr_parse_grammar.specs.declared.goal.Symbol.{Symbol}
use Rattle.kr_parse_grammar.specs.declared.goal.Symbol.TheVariants.{Take, Keep, Word, Literal as Leaf, Spell, Want, Build}
use Rattle.kr_parse_grammar.specs.Values.{StackItem}
use Rattle.kr_parse_grammar.specs.Machine.{Runs, start}

abbrev pub is_end : Terminal → Bool
is_end End = true
is_end _ = false

abbrev pub is_semicolon : Terminal → Bool
is_semicolon Semicolon = true
is_semicolon _ = false

abbrev pub is_void : Terminal → Bool
is_void Void = true
is_void _ = false

abbrev pub is_left_brace : Terminal → Bool
is_left_brace LeftBrace = true
is_left_brace _ = false

abbrev pub is_right_brace : Terminal → Bool
is_right_brace RightBrace = true
is_right_brace _ = false

abbrev pub is_right_parenthesis : Terminal → Bool
is_right_parenthesis RightParenthesis = true
is_right_parenthesis _ = false

-- any token of the language
abbrev pub is_inside : Terminal → Bool
is_inside Outside = false
is_inside _ = true

-- the tokens that close an expression
abbrev pub closes : Terminal → Bool
closes RightParenthesis = true
closes RightBracket = true
closes Semicolon = true
closes Comma = true
closes Colon = true
closes _ = false

abbrev pub ends_primary : Terminal → Bool
ends_primary Step = true
ends_primary k = closes k

abbrev pub ends_type : Terminal → Bool
ends_type Identifier = true
ends_type Greater = true
ends_type k = closes k

abbrev pub ends_statement : Terminal → Bool
ends_statement Else = false
ends_statement Catch = false
ends_statement Outside = false
ends_statement _ = true

abbrev pub ends_class_name : Terminal → Bool
ends_class_name LeftBrace = true
ends_class_name Identifier = true
ends_class_name RightParenthesis = true
ends_class_name _ = false

-- the tokens that may follow a goal, if it takes the short way
abbrev pub follows : Goal → Terminal → Bool
follows goals.File k = is_end k
follows goals.Dotted k = is_semicolon k
follows goals.Imports k = is_end k
follows goals.Imported k = is_semicolon k
follows goals.Classes k = is_end k
follows goals.ClassAhead k = is_inside k
follows goals.Extended k = is_left_brace k
follows goals.ClassTail k = ends_class_name k
follows goals.Members k = is_right_brace k
follows goals.Member k = is_inside k
follows goals.MemberName k = is_inside k
follows goals.Contracts k = is_void k
follows goals.Contract k = is_inside k
follows goals.ThrownName k = is_right_parenthesis k
follows goals.MethodAhead k = is_inside k
follows goals.ContractedMethod k = is_inside k
follows goals.Method k = is_inside k
follows goals.FieldOrMethod k = is_inside k
follows goals.Parameters k = is_right_parenthesis k
follows goals.Parameter k = is_inside k
follows goals.MoreParameters k = is_right_parenthesis k
follows goals.ConstructorBody k = is_right_brace k
follows goals.AfterSuper k = is_right_brace k
follows goals.Type k = ends_type k
follows goals.TypeName k = ends_type k
follows goals.TypeTail k = ends_type k
follows goals.Dimensions k = ends_type k
follows goals.Initialiser k = is_semicolon k
follows goals.MoreDeclarators k = is_semicolon k
follows goals.AfterLocalName k = is_semicolon k
follows goals.Statements k = is_right_brace k
follows goals.BlockStatement k = ends_statement k
follows goals.Item k = is_semicolon k
follows goals.ItemName k = is_semicolon k
follows goals.ItemBracket k = is_semicolon k
follows goals.Statement k = ends_statement k
follows goals.OptionalExpression k = is_semicolon k
follows goals.ElsePart k = ends_statement k
follows goals.Catch k = is_inside k
follows goals.Catches k = ends_statement k
follows goals.CaughtParameter k = is_inside k
follows goals.ForInitial k = is_semicolon k
follows goals.MoreInitial k = is_semicolon k
follows goals.ForUpdates k = is_right_parenthesis k
follows goals.MoreUpdates k = is_right_parenthesis k
follows goals.Primary k = ends_primary k
follows goals.PrimaryName k = ends_primary k
follows goals.Creator k = is_inside k
follows goals.CreatorName k = is_inside k
follows goals.CreatorArgument k = is_inside k
follows goals.ObjectCreation k = is_inside k
follows goals.ArrayLength k = is_inside k
follows goals.Suffixes k = ends_primary k
follows goals.Selected k = ends_primary k
follows goals.Arguments k = is_right_parenthesis k
follows goals.MoreArguments k = is_right_parenthesis k
follows _ k = closes k

-- the first token of a short way to take a goal, before f; `Outside` where none is fixed
abbrev pub first_of : Goal → Terminal → Terminal
first_of goals.Imported f = Identifier
first_of goals.ClassAhead f = Class
first_of goals.Member f = Void
first_of goals.MemberName f = Identifier
first_of goals.Contract f = Requires
first_of goals.MethodAhead f = Void
first_of goals.ContractedMethod f = LeftParenthesis
first_of goals.Method f = LeftParenthesis
first_of goals.FieldOrMethod f = Semicolon
first_of goals.Parameter f = Primitive
first_of goals.AfterSuper f = LeftParenthesis
first_of goals.Type f = Primitive
first_of goals.BlockStatement f = Semicolon
first_of goals.Item f = Primitive
first_of goals.ItemName f = Identifier
first_of goals.ItemBracket f = RightBracket
first_of goals.Statement f = Semicolon
first_of goals.Catch f = Catch
first_of goals.CaughtParameter f = Identifier
first_of goals.StatementExpression f = Step
first_of goals.AfterStatementPrimary f = Step
first_of goals.Primary f = Literal
first_of goals.Creator f = Primitive
first_of goals.CreatorName f = LeftParenthesis
first_of goals.CreatorArgument f = Greater
first_of goals.ObjectCreation f = LeftParenthesis
first_of goals.ArrayLength f = LeftBracket
first_of goals.Expression f = Literal
first_of goals.Conditional f = Literal
first_of goals.Unary f = Literal
first_of goals.Unsigned f = Literal
first_of goals.InParentheses f = Literal
first_of goals.PrimitiveCast f = RightParenthesis
first_of goals.EnclosedName f = RightParenthesis
first_of goals.EnclosedBracket f = RightBracket
first_of goals.EnclosedPrimary f = RightParenthesis
first_of goals.Closing f = RightParenthesis
first_of goals.AfterChain f = RightParenthesis
first_of goals.ChainArgument f = Literal
first_of goals.ChainBracket f = RightBracket
first_of goals.ChainGreater f = Literal
first_of goals.ChainClosing f = Outside
first_of goals.Tested f = Identifier
first_of _ f = f

-- how much is left to do before a token is taken
abbrev pub weight_of : Goal → ℕ
weight_of goals.File = 4
weight_of goals.Imports = 3
weight_of goals.Classes = 2
weight_of goals.Extended = 2
weight_of goals.ClassTail = 2
weight_of goals.Members = 2
weight_of goals.Member = 12
weight_of goals.MemberName = 14
weight_of goals.Contracts = 2
weight_of goals.FieldOrMethod = 9
weight_of goals.Parameters = 2
weight_of goals.Parameter = 4
weight_of goals.MoreParameters = 3
weight_of goals.ConstructorBody = 4
weight_of goals.AfterSuper = 17
weight_of goals.TypeName = 4
weight_of goals.TypeTail = 3
weight_of goals.Initialiser = 2
weight_of goals.MoreDeclarators = 3
weight_of goals.AfterLocalName = 8
weight_of goals.Statements = 2
weight_of goals.BlockStatement = 13
weight_of goals.Item = 11
weight_of goals.ItemName = 11
weight_of goals.ItemBracket = 15
weight_of goals.Statement = 6
weight_of goals.OptionalExpression = 2
weight_of goals.ElsePart = 2
weight_of goals.Catches = 2
weight_of goals.ForInitial = 2
weight_of goals.MoreInitial = 3
weight_of goals.ForUpdates = 2
weight_of goals.MoreUpdates = 3
weight_of goals.StatementExpression = 3
weight_of goals.PrimaryName = 3
weight_of goals.CreatorName = 3
weight_of goals.CreatorArgument = 5
weight_of goals.Selected = 3
weight_of goals.Arguments = 2
weight_of goals.MoreArguments = 3
weight_of goals.Expression = 8
weight_of goals.AfterUnary = 3
weight_of goals.Conditional = 7
weight_of goals.Unary = 4
weight_of goals.Unsigned = 3
weight_of goals.InParentheses = 10
weight_of goals.EnclosedName = 9
weight_of goals.EnclosedBracket = 19
weight_of goals.EnclosedPrimary = 7
weight_of goals.AfterEnclosedName = 6
weight_of goals.AfterChain = 4
weight_of goals.ChainArgument = 8
weight_of goals.ChainName = 12
weight_of goals.ChainBracket = 18
weight_of goals.ChainPrimary = 5
weight_of goals.ChainGreater = 8
weight_of goals.TestedName = 4
weight_of goals.AfterTested = 2
weight_of _ = 1

-- a goal that always takes a token ranks lower
abbrev pub debt_of : Goal → ℕ
debt_of goals.Imported = 40
debt_of goals.ClassAhead = 40
debt_of goals.Member = 40
debt_of goals.Method = 40
debt_of goals.Parameter = 40
debt_of goals.Type = 40
debt_of goals.BlockStatement = 40
debt_of goals.Item = 40
debt_of goals.Statement = 40
debt_of goals.Catch = 40
debt_of goals.StatementExpression = 40
debt_of goals.Primary = 40
debt_of goals.Creator = 40
debt_of goals.CreatorArgument = 40
debt_of goals.ObjectCreation = 40
debt_of goals.ArrayLength = 40
debt_of goals.Expression = 40
debt_of goals.Conditional = 40
debt_of goals.Unary = 40
debt_of goals.Unsigned = 40
debt_of goals.InParentheses = 40
debt_of goals.PrimitiveCast = 40
debt_of goals.Closing = 40
debt_of goals.Tested = 40
debt_of _ = 80

-- the first token of a short way to take the symbols
abbrev pub first : List Symbol → Terminal
first [] = End
first (Take k ∷ ss) = k
first (Keep k ∷ ss) = k
first (Word ∷ ss) = Identifier
first (Leaf ∷ ss) = Literal
first (Spell s ∷ ss) = Identifier
first (Build m ∷ ss) = first ss
first (Want g ∷ ss) = first_of g (first ss)

-- a token of that kind can be taken
abbrev pub IsTaken : Terminal → Type 0
IsTaken End = ⊥
IsTaken Outside = ⊥
IsTaken _ = Unit {0}

-- the symbols can be taken the short way
abbrev pub Good : List Symbol → Type 0
Good [] = Unit {0}
Good (Take k ∷ ss) = IsTaken k × Good ss
Good (Keep k ∷ ss) = IsTaken k × Good ss
Good (Word ∷ ss) = Good ss
Good (Leaf ∷ ss) = Good ss
Good (Spell s ∷ ss) = Good ss
Good (Build m ∷ ss) = Good ss
Good (Want g ∷ ss) = (follows g (first ss) ≡ true) × Good ss

abbrev pub weight : List Symbol → ℕ
weight [] = 0
weight (Want g ∷ ss) = weight_of g + weight ss
weight (s ∷ ss) = 1 + weight ss

abbrev pub debt : List Symbol → ℕ
debt [] = 0
debt (Build m ∷ ss) = 80
debt (Want g ∷ ss) = debt_of g
debt (s ∷ ss) = 0

-- it falls with each symbol, and rises by less than 100 with each token
abbrev pub load : List Symbol → ℕ
load ss = weight ss + debt ss

-- the token ahead, if there is one
abbrev pub front : List Lexeme → Option Lexeme
front [] = None
front (a ∷ i) = Some a

-- With the token at `at` ahead: the tokens before it, followed by any that these symbols take, are taken from the
-- start.
pub record State (ts : List Lexeme) (at : ℕ) (ss : List Symbol) (vs : List StackItem) : Type 0 where
  pub within : at ≤ length ts
  pub onward : (j : List Lexeme) (ws : List StackItem) → front j ≡ front (drop at ts) → Runs start [] (take at ts ++ j) ws → Runs ss vs j ws
  pub back : (j : List Lexeme) (ws : List StackItem) → front j ≡ front (drop at ts) → Runs ss vs j ws → Runs start [] (take at ts ++ j) ws
  pub viable : (j : List Lexeme) × (ws : List StackItem) × Runs start [] (take at ts ++ j) ws
  pub good : Good ss
