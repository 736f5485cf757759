-- The claim for each class: after a tree of the class, the machine takes the remaining tokens in its place.
use Rattle.std.proofs.Common.{◌≡◌, ◌≢◌, ℕ, zero, suc, ◌≤◌, Bool, true, false, not, List, [], ◌∷◌, ◌++◌, Some}
use Rattle.kr_base.specs.declared.place.Place.{Place}
use Rattle.kr_lex.specs.Lexemes.{Lexeme}
use Rattle.kr_lex.specs.declared.kind.Kind.{Kind}
use Rattle.kr_ast.specs.declared.node.BinaryOperator.TheVariants as binaries
use Rattle.kr_ast.specs.Tree as trees
use Rattle.kr_ast.specs.Tree.{Tree}
use Rattle.kr_parse_grammar.specs.declared.terminal.Terminal.{Terminal}
use Rattle.kr_parse_grammar.specs.declared.terminal.Terminal.TheVariants as terminals
use Rattle.kr_parse_grammar.specs.declared.value.Tag.TheVariants as tags
use Rattle.kr_parse_grammar.specs.declared.value.Form.{Form}
use Rattle.kr_parse_grammar.specs.declared.value.Form.TheVariants as forms
use Rattle.kr_parse_grammar.specs.declared.goal.Goal.{Goal}
use Rattle.kr_parse_grammar.specs.declared.goal.Goal.TheVariants as goals
use Rattle.kr_parse_grammar.specs.declared.goal.Make.{Make}
use Rattle.kr_parse_grammar.specs.declared.goal.Make.TheVariants as makes
use Rattle.kr_parse_grammar.specs.declared.goal.Symbol.{Symbol}
use Rattle.kr_parse_grammar.specs.declared.goal.Symbol.TheVariants.{Take, Keep, Word, Want, Build}
use Rattle.kr_parse_grammar.specs.Terminals.{terminal_of}
use Rattle.kr_parse_grammar.specs.Values.{StackItem, mark, word, pair, part, member, owner, tag, is_name, no_modifiers}
use Rattle.kr_parse_grammar.specs.Made.{compared}
pub use Rattle.kr_parse_grammar.specs.State.{closes, ends_class_name}
use Rattle.kr_parse_grammar.specs.Grammar.{at, EndsOpen}
use Rattle.kr_parse_grammar.specs.Machine.{ahead, rule, starts_unary, ends_expression, level_of, Runs}

-- whatever form the tree has
abbrev pub Part : List Symbol → List StackItem → Place → Tree → List Lexeme → List StackItem → Type 0
Part ss vs p t r ws = (f : Form) → Runs ss (part p f t ∷ vs) r ws

-- in any context
abbrev pub Any : List Symbol → List StackItem → Tree → List Lexeme → List StackItem → Type 0
Any ss vs t r ws = (p : Place) (f : Form) → Runs ss (part p f t ∷ vs) r ws

-- lists of what fits a claim
pub data Optional (P : List Lexeme → Tree → List Lexeme → Type 0) : List Lexeme → Tree → List Lexeme → Type 0 where
  absent : {i : List Lexeme} → Optional P i trees.Nil i
  present : {i r : List Lexeme} {t : Tree} → P i t r → Optional P i t r

pub data Listed (P : List Lexeme → Tree → List Lexeme → Type 0) : List Lexeme → Tree → List Lexeme → Type 0 where
  end : {i : List Lexeme} → Listed P i trees.Nil i
  next : {i m r : List Lexeme} {t u : Tree} → P i t m → Listed P m u r → Listed P i (trees.Cons t u) r

pub data Parted (P : List Lexeme → Tree → List Lexeme → Type 0) : List Lexeme → Tree → List Lexeme → Type 0 where
  last : {i r : List Lexeme} {t : Tree} → P i t r → Parted P i (trees.Cons t trees.Nil) r
  comma : {i m r : List Lexeme} {t u : Tree} (a : Lexeme) → P i t (a ∷ m) → terminal_of a.kind ≡ terminals.Comma → Parted P m u r → Parted P i (trees.Cons t u) r

-- a name: the value that is kept, the operand and the type that it spells
pub data IsName : StackItem → Place → Tree → Tree → Type 0 where
  a_word : {p : Place} {n : List ℕ} → IsName (word p n) p (trees.Variable p n) (trees.NamedType p n)
  a_pair : {p : Place} {o n : List ℕ} → IsName (pair p o n) p (trees.FieldAccess p (trees.Variable p o) n) (trees.QualifiedType p o n)

-- a word pushed on these values is no constructor's name
abbrev pub Plain : List StackItem → Type 0
Plain vs = (p : Place) (n : List ℕ) → tag (word p n ∷ vs) ≡ tags.Word

-- Kinds of tokens.
abbrev pub is_at_end : ℕ → Terminal → Bool
is_at_end zero k = ends_expression k
is_at_end (suc l) k = true

-- the tokens that may follow an operand
abbrev pub ends_operand : Terminal → Bool
ends_operand k = is_at_end (level_of k) k

-- the tokens that may follow a primary expression
abbrev pub ends_suffixes : Terminal → Bool
ends_suffixes terminals.Dot = false
ends_suffixes terminals.LeftBracket = false
ends_suffixes terminals.Identifier = false
ends_suffixes terminals.Literal = false
ends_suffixes terminals.LeftParenthesis = false
ends_suffixes terminals.New = false
ends_suffixes terminals.Super = false
ends_suffixes terminals.Old = false
ends_suffixes terminals.Complement = false
ends_suffixes _ = true

abbrev pub is_relation : Terminal → Bool
is_relation terminals.Less = true
is_relation terminals.Greater = true
is_relation _ = false

abbrev pub is_less : Terminal → Bool
is_less terminals.Less = true
is_less _ = false

abbrev pub is_assigning : Terminal → Bool
is_assigning terminals.Equal = true
is_assigning terminals.Compound = true
is_assigning _ = false

-- after a kept name, the tokens that show it is an operand
abbrev pub passes : Bool → StackItem → Terminal → Bool
passes c v terminals.Less = false
passes c v terminals.LeftBracket = false
passes c v terminals.Greater = not c
passes c (word p n) terminals.Dot = false
passes c v k = true

-- While names are kept: goal, symbols and values as they are, and as they would be if the name is an operand. The flag
-- says that a comparison with a name may precede it.
pub record Context (c : Bool) (g : Goal) (ss : List Symbol) (ns : List StackItem) (ts : List Symbol) (vs ws : List StackItem) : Type 0 where
  pub plain : Plain ns
  pub after : List Symbol
  pub onto : (us : List StackItem) (j : List Lexeme) → Runs (Want goals.Suffixes ∷ ts) us j ws → Runs after us j ws
  pub call : (v : StackItem) (p : Place) (e u : Tree) (j : List Lexeme) → IsName v p e u → ahead j ≡ terminals.LeftParenthesis
      → Runs (Take terminals.LeftParenthesis ∷ Want goals.Arguments ∷ Take terminals.RightParenthesis ∷ Build makes.CallOfName ∷ after) (v ∷ vs) j ws → Runs (Want g ∷ ss) (v ∷ ns) j ws
  pub index : (v : StackItem) (p : Place) (e u : Tree) (a : Lexeme) (j : List Lexeme) → IsName v p e u → terminal_of a.kind ≡ terminals.LeftBracket
      → Runs (Want goals.Expression ∷ Take terminals.RightBracket ∷ Build makes.ArrayAccess ∷ after) (part p forms.Target e ∷ vs) j ws → Runs (Want g ∷ ss) (v ∷ ns) (a ∷ j) ws
  pub dot : (p : Place) (n : List ℕ) (j : List Lexeme) → ahead j ≡ terminals.Dot → Runs (Take terminals.Dot ∷ Word ∷ Build makes.Pair ∷ Want g ∷ ss) (word p n ∷ ns) j ws → Runs (Want g ∷ ss) (word p n ∷ ns) j ws
  pub operand : (v : StackItem) (p : Place) (e u : Tree) (j : List Lexeme) → IsName v p e u → passes c v (ahead j) ≡ true → Runs (Want goals.Suffixes ∷ ts) (part p forms.Target e ∷ vs) j ws → Runs (Want g ∷ ss) (v ∷ ns) j ws

-- after a name that is the whole expression
abbrev pub Bare : Goal → List Symbol → List StackItem → Place → Tree → List Lexeme → List StackItem → Type 0
Bare g ss ns p t r ws = (v : StackItem) (u : Tree) → IsName v p t u → Runs (Want g ∷ ss) (v ∷ ns) r ws

-- the two goals that a primary expression is taken for
abbrev pub start : Bool → Goal
start true = goals.Unsigned
start false = goals.Primary

abbrev pub tail : Bool → List Symbol → List Symbol
tail true ss = Want goals.Postfixes ∷ ss
tail false ss = ss

pub record PrimaryClaim (f : Form) (i : List Lexeme) (t : Tree) (r : List Lexeme) : Type 0 where
  pub simple : (b : Bool) (ss : List Symbol) (vs ws : List StackItem) → Runs (Want goals.Suffixes ∷ tail b ss) (part (at i) f t ∷ vs) r ws → Runs (Want (start b) ∷ ss) vs i ws
  pub led : (c : Bool) (g : Goal) (ss : List Symbol) (ns : List StackItem) (ts : List Symbol) (vs ws : List StackItem) → Context c g ss ns ts vs ws → Runs (Want goals.Suffixes ∷ ts) (part (at i) f t ∷ vs) r ws
      → (f ≡ forms.Target → Bare g ss ns (at i) t r ws) → ahead i ≡ terminals.Identifier → Runs (Word ∷ Want g ∷ ss) ns i ws

-- operands, by the tokens that may follow and the goal for them
pub record OperandClaim (ends : Terminal → Bool) (h : Goal) (us : List Symbol) (i : List Lexeme) (t : Tree) (r : List Lexeme) : Type 0 where
  pub simple : (ss : List Symbol) (vs ws : List StackItem) → ends (ahead r) ≡ true → Part (us ++ ss) vs (at i) t r ws → Runs (Want h ∷ ss) vs i ws
  pub led : (c : Bool) (g : Goal) (ss : List Symbol) (ns : List StackItem) (ts : List Symbol) (vs ws : List StackItem) → Context c g ss ns (Want goals.Postfixes ∷ ts) vs ws
      → ends (ahead r) ≡ true → Part (us ++ ts) vs (at i) t r ws → Bare g ss ns (at i) t r ws → ahead i ≡ terminals.Identifier → Runs (Word ∷ Want g ∷ ss) ns i ws

-- symbols that may continue with operators
abbrev pub Enters : ℕ → List Symbol → List Symbol → List StackItem → Type 0
Enters n ss ts ws = (vs : List StackItem) (j : List Lexeme) → Runs (Want (goals.Operators n 10) ∷ ss) vs j ws → Runs ts vs j ws

-- symbols after a comparison, and their continuation
abbrev pub Gated : ℕ → List Symbol → List Symbol → List StackItem → Type 0
Gated n ss ts ws = (p : Place) (t : Tree) (vs : List StackItem) (j : List Lexeme) → Runs (Want (goals.Operators n 7) ∷ ss) (part p forms.Other t ∷ vs) j ws → Runs ts (part p forms.Other t ∷ vs) j ws

abbrev pub Reaches : ℕ → ℕ → Type 0
Reaches x y = (l : ℕ) → l ≤ x → l ≤ 10 → l ≤ y

-- after an operation, each state of the machine takes the next tokens
pub record Conts (x n : ℕ) (ss : List Symbol) (vs ws : List StackItem) (p : Place) (t : Tree) (r : List Lexeme) : Type 0 where
  pub rels : (y : ℕ) → Reaches x y → Part (Want (goals.Operators n y) ∷ ss) vs p t r ws
  pub chain : x ≡ 7 → (ts : List Symbol) (ns : List StackItem) (v : StackItem) (q : Place) (e u y : Tree) (f : Form) → Gated n ss ts ws → IsName v q e u → is_name ns ≡ true → compared ns ≡ part p f y ∷ vs
      → t ≡ trees.Binary p binaries.Less y e → Runs (Want goals.ChainName ∷ ts) (v ∷ ns) r ws
  pub test : x ≡ 7 → (v : StackItem) (q : Place) (e u y : Tree) (f : Form) → IsName v q e u → t ≡ trees.InstanceOf p y u → Runs (Want goals.TestedName ∷ Want (goals.Operators n 7) ∷ ss) (v ∷ part p f y ∷ vs) r ws

-- where a name followed by `<` begins a chain
pub record Begins (g : Goal) (ss : List Symbol) (ns : List StackItem) (n : ℕ) (us : List Symbol) (vs ws : List StackItem) : Type 0 where
  pub gate : List Symbol
  pub gated : Gated n us gate ws
  pub less : (v : StackItem) (q : Place) (e u : Tree) (a : Lexeme) (m : List Lexeme) → IsName v q e u → terminal_of a.kind ≡ terminals.Less → Runs (Want goals.ChainArgument ∷ gate) (v ∷ ns) m ws → Runs (Want g ∷ ss) (v ∷ ns) (a ∷ m) ws
  pub names : (v : StackItem) (q : Place) (e u : Tree) → IsName v q e u → compared (v ∷ ns) ≡ part q forms.Target e ∷ vs

pub record OperationClaim (x : ℕ) (i : List Lexeme) (t : Tree) (r : List Lexeme) : Type 0 where
  pub least : 1 ≤ x
  pub simple : (ts : List Symbol) (n : ℕ) (ss : List Symbol) (vs ws : List StackItem) → n ≤ x → Enters n ss ts ws → Conts x n ss vs ws (at i) t r → Runs (Want goals.Unary ∷ ts) vs i ws
  pub led : (c : Bool) (g : Goal) (us : List Symbol) (ns : List StackItem) (ts : List Symbol) (n : ℕ) (ss : List Symbol) (vs ws : List StackItem) → Context c g us ns (Want goals.Postfixes ∷ ts) vs ws
      → n ≤ x → Enters n ss ts ws → (c ≡ true → 8 ≤ n) → (n ≤ 7 → Begins g us ns n ss vs ws) → Conts x n ss vs ws (at i) t r → Bare g us ns (at i) t r ws → ahead i ≡ terminals.Identifier → Runs (Word ∷ Want g ∷ us) ns i ws

-- expressions that begin as operations do
pub record ConditionalClaim (i : List Lexeme) (t : Tree) (r : List Lexeme) : Type 0 where
  pub simple : (ts ss : List Symbol) (vs ws : List StackItem) → Enters 1 (Want goals.AfterOperation ∷ ss) ts ws → closes (ahead r) ≡ true → Part ss vs (at i) t r ws → Runs (Want goals.Unary ∷ ts) vs i ws
  pub enclosed : (ss : List Symbol) (k : Kind) (p : Place) (vs ws : List StackItem) → closes (ahead r) ≡ true → Part (Want goals.Closing ∷ ss) (mark k p ∷ vs) (at i) t r ws
      → ahead i ≡ terminals.Identifier → Runs (Word ∷ Want goals.EnclosedName ∷ ss) (mark k p ∷ vs) i ws

-- a target and the rest of the assignment
pub record AssignmentClaim (i : List Lexeme) (t : Tree) (r : List Lexeme) : Type 0 where
  pub target : Tree
  pub rest : List Lexeme
  pub takes : PrimaryClaim forms.Target i target rest
  pub assigning : is_assigning (ahead rest) ≡ true
  pub behind : (k : Terminal) (ss : List Symbol) (vs ws : List StackItem) → ahead rest ≡ k → closes (ahead r) ≡ true → Runs ss (part (at i) forms.Other t ∷ vs) r ws
      → Runs (Keep k ∷ Want goals.Expression ∷ Build makes.Assign ∷ ss) (part (at i) forms.Target target ∷ vs) rest ws

pub record ExpressionClaim (i : List Lexeme) (t : Tree) (r : List Lexeme) : Type 0 where
  pub simple : (ss : List Symbol) (vs ws : List StackItem) → closes (ahead r) ≡ true → Part ss vs (at i) t r ws → Runs (Want goals.Expression ∷ ss) vs i ws
  pub enclosed : (ss : List Symbol) (k : Kind) (p : Place) (vs ws : List StackItem) → closes (ahead r) ≡ true → Part (Want goals.Closing ∷ ss) (mark k p ∷ vs) (at i) t r ws → Runs (Want goals.InParentheses ∷ ss) (mark k p ∷ vs) i ws

-- Types.
abbrev pub Loops : Goal → Type 0
Loops g = rule g terminals.Dot tags.Word ≡ Some (Take terminals.Dot ∷ Word ∷ Build makes.Pair ∷ Want g ∷ [])

abbrev pub is_tail : Terminal → Bool
is_tail terminals.Less = true
is_tail terminals.LeftBracket = true
is_tail terminals.Identifier = true
is_tail _ = false

abbrev pub is_type_end : Terminal → Bool
is_type_end terminals.Dot = false
is_type_end terminals.Less = false
is_type_end _ = true

abbrev pub starts_type : Terminal → Bool
starts_type terminals.Primitive = true
starts_type terminals.Identifier = true
starts_type _ = false

-- the tokens that a local may begin with
abbrev pub starts_local : Terminal → Bool
starts_local terminals.Final = true
starts_local k = starts_type k

pub record NameClaim (i : List Lexeme) (t : Tree) (r : List Lexeme) : Type 0 where
  pub value : StackItem
  pub operand : Tree
  pub isname : IsName value (at i) operand t
  pub identifier : ahead i ≡ terminals.Identifier
  pub loop : (g : Goal) (ss : List Symbol) (vs ws : List StackItem) → Loops g → Plain vs → Runs (Want g ∷ ss) (value ∷ vs) r ws → Runs (Word ∷ Want g ∷ ss) vs i ws
  pub typed : (ss : List Symbol) (vs ws : List StackItem) → ahead r ≢ terminals.Dot → Runs (Want goals.TypeTail ∷ ss) (value ∷ vs) r ws → Runs (Word ∷ Want goals.TypeName ∷ ss) vs i ws
  pub member : (ss : List Symbol) (vs ws : List StackItem) → is_tail (ahead r) ≡ true → Runs (Want goals.TypeTail ∷ Word ∷ Want goals.FieldOrMethod ∷ ss) (value ∷ vs) r ws → Runs (Word ∷ Want goals.MemberName ∷ ss) vs i ws
  pub extends : (ss : List Symbol) (vs ws : List StackItem) → ends_class_name (ahead r) ≡ true → Runs ss (part (at i) forms.Type t ∷ vs) r ws → Runs (Word ∷ Want goals.ClassTail ∷ ss) vs i ws

-- no operand begins after a `>`
abbrev pub Quiet : List Lexeme → Type 0
Quiet r = (b : Lexeme) (m : List Lexeme) → r ≡ b ∷ m → terminal_of b.kind ≡ terminals.Greater → starts_unary (ahead m) ≡ false

pub record TypeClaim (i : List Lexeme) (t : Tree) (r : List Lexeme) : Type 0 where
  pub starts : starts_type (ahead i) ≡ true
  pub simple : (ss : List Symbol) (vs ws : List StackItem) → is_type_end (ahead r) ≡ true → Runs (Want goals.Dimensions ∷ ss) (part (at i) forms.Type t ∷ vs) r ws → Runs (Want goals.Type ∷ ss) vs i ws
  pub local : (ss : List Symbol) (vs ws : List StackItem) → Plain vs → Runs (Want goals.Dimensions ∷ Word ∷ Want goals.AfterLocalName ∷ ss) (part (at i) forms.Type t ∷ vs) r ws → Runs (Want goals.Item ∷ ss) vs i ws
  pub member : (ss : List Symbol) (vs ws : List StackItem) → tag vs ≢ tags.Overriding → Runs (Want goals.Dimensions ∷ Word ∷ Want goals.FieldOrMethod ∷ ss) (part (at i) forms.Type t ∷ vs) r ws → Runs (Want goals.Member ∷ ss) vs i ws
  pub chain : (ss : List Symbol) (ns ws : List StackItem) → is_name ns ≡ true → Quiet r → Runs (Want goals.ChainClosing ∷ ss) (part (at i) forms.Type t ∷ ns) r ws → Runs (Want goals.ChainArgument ∷ ss) ns i ws

pub record ReferenceClaim (i : List Lexeme) (t : Tree) (r : List Lexeme) : Type 0 where
  pub type : TypeClaim i t r
  pub cast : (ss : List Symbol) (k : Kind) (p : Place) (vs ws : List StackItem) → Runs (Want goals.Dimensions ∷ Take terminals.RightParenthesis ∷ Want goals.Unsigned ∷ Build makes.Cast ∷ ss) (part (at i) forms.Type t ∷ mark k p ∷ vs) r ws
      → Runs (Want goals.InParentheses ∷ ss) (mark k p ∷ vs) i ws
  pub tested : (ss : List Symbol) (p : Place) (f : Form) (x : Tree) (vs ws : List StackItem) → starts_unary (ahead r) ≡ false → Runs (Want goals.Dimensions ∷ Build makes.InstanceOf ∷ ss) (part (at i) forms.Type t ∷ part p f x ∷ vs) r ws
      → ((v : StackItem) (e : Tree) → IsName v (at i) e t → Runs (Want goals.TestedName ∷ ss) (v ∷ part p f x ∷ vs) r ws) → Runs (Want goals.Tested ∷ ss) (part p f x ∷ vs) i ws

pub record AnyTypeClaim (i : List Lexeme) (t : Tree) (r : List Lexeme) : Type 0 where
  pub type : TypeClaim i t r
  pub reference : ahead r ≡ terminals.LeftBracket → ReferenceClaim i t r

-- Locals and statements.
abbrev pub DeclaratorClaim : List Lexeme → Tree → List Lexeme → Type 0
DeclaratorClaim i t r = (ss : List Symbol) (vs ws : List StackItem) → closes (ahead r) ≡ true → Runs ss (part (at i) forms.Other t ∷ vs) r ws → Runs (Word ∷ Want goals.Initialiser ∷ Build makes.Declarator ∷ ss) vs i ws

pub record LocalClaim (i : List Lexeme) (t : Tree) (r : List Lexeme) : Type 0 where
  pub starts : starts_local (ahead i) ≡ true
  pub item : (ss : List Symbol) (vs ws : List StackItem) → ahead r ≡ terminals.Semicolon → Plain vs → Any ss vs t r ws → Runs (Want goals.Item ∷ ss) vs i ws

pub record StatementExpressionClaim (i : List Lexeme) (t : Tree) (r : List Lexeme) : Type 0 where
  pub simple : (ss : List Symbol) (vs ws : List StackItem) → closes (ahead r) ≡ true → Part ss vs (at i) t r ws → Runs (Want goals.StatementExpression ∷ ss) vs i ws
  pub item : (ss : List Symbol) (vs ws : List StackItem) → closes (ahead r) ≡ true → Plain vs → Part (Build makes.ExpressionStatement ∷ ss) vs (at i) t r ws → ahead i ≡ terminals.Identifier → Runs (Word ∷ Want goals.ItemName ∷ ss) vs i ws

pub record EvaluatedClaim (i : List Lexeme) (t : Tree) (r : List Lexeme) : Type 0 where
  pub simple : (ss : List Symbol) (vs ws : List StackItem) → closes (ahead r) ≡ true → Runs ss (part (at i) forms.Other t ∷ vs) r ws → Runs (Want goals.StatementExpression ∷ Build makes.ExpressionStatement ∷ ss) vs i ws
  pub item : (ss : List Symbol) (vs ws : List StackItem) → closes (ahead r) ≡ true → Plain vs → Runs ss (part (at i) forms.Other t ∷ vs) r ws → Runs (Want goals.Item ∷ ss) vs i ws

-- no `else` follows a statement that could take it, and no `catch` follows a statement
abbrev pub NoElse : Tree → List Lexeme → Type 0
NoElse t r = (EndsOpen t → ahead r ≡ terminals.Else → ⊥) × (ahead r ≡ terminals.Catch → ⊥)

pub record StatementClaim (i : List Lexeme) (t : Tree) (r : List Lexeme) : Type 0 where
  pub simple : (ss : List Symbol) (vs ws : List StackItem) → NoElse t r → Runs ss (part (at i) forms.Other t ∷ vs) r ws → Runs (Want goals.Statement ∷ ss) vs i ws
  pub block : (ss : List Symbol) (vs ws : List StackItem) → NoElse t r → Plain vs → Runs ss (part (at i) forms.Other t ∷ vs) r ws → Runs (Want goals.BlockStatement ∷ ss) vs i ws

abbrev pub BlockStatementClaim : List Lexeme → Tree → List Lexeme → Type 0
BlockStatementClaim i t r = (ss : List Symbol) (vs ws : List StackItem) → NoElse t r → Plain vs → Any ss vs t r ws → Runs (Want goals.BlockStatement ∷ ss) vs i ws

abbrev pub CaughtClaim : List Lexeme → Tree → List Lexeme → Type 0
CaughtClaim i t r = (ss : List Symbol) (vs ws : List StackItem) → Any ss vs t r ws → Runs (Want goals.CaughtParameter ∷ ss) vs i ws

pub record CatchClaim (i : List Lexeme) (t : Tree) (r : List Lexeme) : Type 0 where
  pub starts : ahead i ≡ terminals.Catch
  pub taken : (ss : List Symbol) (vs ws : List StackItem) → Any ss vs t r ws → Runs (Want goals.Catch ∷ ss) vs i ws

abbrev pub ForInitialClaim : List Lexeme → Tree → List Lexeme → Type 0
ForInitialClaim i t r = (ss : List Symbol) (vs ws : List StackItem) → ahead r ≡ terminals.Semicolon → Plain vs → Any ss vs t r ws → Runs (Want goals.Item ∷ Want goals.MoreInitial ∷ ss) vs i ws

-- Declarations.
abbrev pub ParameterClaim : List Lexeme → Tree → List Lexeme → Type 0
ParameterClaim i t r = (ss : List Symbol) (vs ws : List StackItem) → Any ss vs t r ws → Runs (Want goals.Parameter ∷ ss) vs i ws

-- the member that a method's result type begins, if its name and a parenthesis follow: after the goal for any member,
-- or for a method
abbrev pub Begun : Goal → Goal → List Lexeme → Tree → List Lexeme → Type 0
Begun g h i t r = (a b : Lexeme) (l : List Lexeme) → r ≡ a ∷ b ∷ l → terminal_of a.kind ≡ terminals.Identifier → terminal_of b.kind ≡ terminals.LeftParenthesis
    → (ss : List Symbol) (vs ws : List StackItem) → Runs (Want h ∷ ss) (word a.place a.text ∷ part (at i) forms.Type t ∷ vs) (b ∷ l) ws → Runs (Want g ∷ ss) vs i ws

pub record ResultClaim (i : List Lexeme) (t : Tree) (r : List Lexeme) : Type 0 where
  pub plain : Begun goals.Member goals.Method i t r
  pub contracted : Begun goals.MethodAhead goals.ContractedMethod i t r

pub record ContractClaim (i : List Lexeme) (t : Tree) (r : List Lexeme) : Type 0 where
  pub starts : ahead i ≡ terminals.Contract
  pub taken : (ss : List Symbol) (vs ws : List StackItem) → Any ss vs t r ws → Runs (Keep terminals.Contract ∷ Want goals.Contract ∷ ss) vs i ws

abbrev pub ConstructorCallClaim : List Lexeme → Tree → List Lexeme → Type 0
ConstructorCallClaim i t r = (ss : List Symbol) (vs ws : List StackItem) → Any (Want goals.Statements ∷ ss) vs t r ws → Runs (Want goals.ConstructorBody ∷ ss) vs i ws

abbrev pub ExtendedClaim : List Lexeme → Tree → List Lexeme → Type 0
ExtendedClaim i t r = (ss : List Symbol) (vs ws : List StackItem) → ahead r ≡ terminals.LeftBrace → Any ss vs t r ws → Runs (Want goals.Extended ∷ ss) vs i ws

abbrev pub owner_make : Bool → Make
owner_make true = makes.NestedOwner
owner_make false = makes.Owner

pub record ClassClaim (n : Bool) (i : List Lexeme) (t : Tree) (r : List Lexeme) : Type 0 where
  pub place : Place
  pub starts : ahead i ≡ terminals.Class
  pub body : (ss : List Symbol) (vs ws : List StackItem) → Runs ss (part place forms.Other t ∷ vs) r ws
      → Runs (Take terminals.Class ∷ Word ∷ Want goals.Extended ∷ Build (owner_make n) ∷ Build makes.MemberAhead ∷ Take terminals.LeftBrace ∷ Want goals.Members ∷ Take terminals.RightBrace ∷ Build makes.Class ∷ ss) vs i ws

-- a member without contracts
abbrev pub PlainClaim : List ℕ → Bool → List Lexeme → Tree → List Lexeme → Type 0
PlainClaim o n i t r = (ss : List Symbol) (p : Place) (vs ws : List StackItem) → Any ss (owner n p o ∷ vs) t r ws → Runs (Want goals.Member ∷ ss) (member n no_modifiers ∷ owner n p o ∷ vs) i ws

-- from a member to the others
abbrev pub others : List Symbol → List Symbol
others ss = Build makes.Swap ∷ Build makes.MemberAhead ∷ Want goals.Members ∷ Build makes.ConsBelow ∷ ss

abbrev pub MemberClaim : List ℕ → Bool → List Lexeme → Tree → List Lexeme → Type 0
MemberClaim o n i t r = (ss : List Symbol) (p : Place) (vs ws : List StackItem) → Any (others ss) (owner n p o ∷ vs) t r ws → Runs (Want goals.Members ∷ ss) (member n no_modifiers ∷ owner n p o ∷ vs) i ws

abbrev pub MembersClaim : List ℕ → Bool → List Lexeme → Tree → List Lexeme → Type 0
MembersClaim o n i t r = (ss : List Symbol) (p : Place) (vs ws : List StackItem) → ahead r ≡ terminals.RightBrace → ((q : Place) (f : Form) → Runs ss (owner n p o ∷ part q f t ∷ vs) r ws)
    → Runs (Want goals.Members ∷ ss) (member n no_modifiers ∷ owner n p o ∷ vs) i ws

abbrev pub ClassesClaim : List Lexeme → Tree → List Lexeme → Type 0
ClassesClaim i t r = ahead r ≡ terminals.End → (p : Place) × (f : Form) × ((ss : List Symbol) (vs ws : List StackItem) → Runs ss (part p f t ∷ vs) r ws → Runs (Want goals.Classes ∷ ss) vs i ws)
