-- To be believed: the grammar, one case per production (Java Language Specification 4, 7, 8, 14 and 15, for this language). `Der
-- C i t r`: the tokens i begin with a C, whose tree is t, and the tokens r are left.
use Rattle.std.specs.Prelude.{ℕ, ◌≡◌, ◌≢◌, ◌≤◌, ◌<◌, Bool, true, false, List, [], ◌∷◌, Some}
use Rattle.kr_base.specs.declared.place.Place.{Place}
use Rattle.kr_lex.specs.Lexemes.{Lexeme, number_value, long_number_value}
use Rattle.kr_lex.specs.declared.kind.Kind.{Kind}
use Rattle.kr_lex.specs.declared.kind.Kind.TheVariants as kinds
use Rattle.kr_ast.specs.declared.node.Primitive.{Primitive}
use Rattle.kr_ast.specs.declared.node.Primitive.TheVariants as primitives
use Rattle.kr_ast.specs.declared.node.UnaryOperator.{UnaryOperator}
use Rattle.kr_ast.specs.declared.node.StepOperator.{StepOperator}
use Rattle.kr_ast.specs.declared.node.BinaryOperator.{BinaryOperator}
use Rattle.kr_ast.specs.Tree as trees
use Rattle.kr_ast.specs.Tree.{Tree, Nil, Cons, IfThen, IfElse, While, For}
use Rattle.kr_parse_grammar.specs.declared.value.Form.{Form}
use Rattle.kr_parse_grammar.specs.declared.value.Form.TheVariants.{Target, Invocation, ArrayCreation, Other}
use Rattle.kr_parse_grammar.specs.declared.value.Modifiers.{Modifiers}
use Rattle.kr_parse_grammar.specs.Values.{no_modifiers}
use Rattle.kr_parse_grammar.specs.TokenMeanings.{primitive_of, sign_of, step_before, step_behind, complement_of, binary_of, level, compound_of, is_access, java, util, override}

pub data Class : Type 0 where
  -- types
  ClassName : Class
  ReferenceType : Class
  AnyType : Class
  -- expressions; a primary expression has a form, and an operation is as loose as its own operator
  Primary : Form → Class
  Postfix : Class
  Unsigned : Class
  Unary : Class
  Operation : ℕ → Class
  Conditional : Class
  Assignment : Class
  Expression : Class
  -- statements
  Declarator : Class
  Local : Class
  StatementExpression : Class
  Evaluated : Class
  BlockStatement : Class
  Statement : Class
  ForInitial : Class
  Caught : Class
  Catch : Class
  -- declarations; members know their class's name, and whether it is nested
  Parameter : Class
  ResultType : Class
  ConstructorCall : Class
  Contract : Class
  Extended : Class
  ClassDeclaration : Bool → Class
  Member : List ℕ → Bool → Class
  Members : List ℕ → Bool → Class
  Classes : Class
  -- an optional one; any number; one or more, separated by commas
  Maybe : Class → Class
  Many : Class → Class
  Several : Class → Class

-- the place of the first token
abbrev pub at : List Lexeme → Place
at [] = record { file = 0; line = 0; col = 0 }
at (a ∷ i) = a.place

-- a statement that ends with an `if` without `else`
abbrev pub EndsOpen : Tree → Type 0
EndsOpen (IfThen p c s) = Unit {0}
EndsOpen (IfElse p c s u) = EndsOpen u
EndsOpen (While p c s) = EndsOpen s
EndsOpen (For p a c u s) = EndsOpen s
EndsOpen _ = ⊥

-- modifiers; access has no effect
pub data Modified : List Lexeme → Modifiers → List Lexeme → Type 0 where
  nothing : {i : List Lexeme} → Modified i no_modifiers i
  access : {i r : List Lexeme} {f : Modifiers} (a : Lexeme) → Modified i f (a ∷ r) → is_access a.kind ≡ true → Modified i f r
  static : {i r : List Lexeme} {f : Modifiers} (a : Lexeme) → Modified i f (a ∷ r) → a.kind ≡ kinds.Static → Modified i (record f { is_static = true }) r
  final : {i r : List Lexeme} {f : Modifiers} (a : Lexeme) → Modified i f (a ∷ r) → a.kind ≡ kinds.Final → Modified i (record f { is_final = true }) r
  overriding : {i r : List Lexeme} {f : Modifiers} (a b : Lexeme) → Modified i f (a ∷ b ∷ r) → a.kind ≡ kinds.At → b.kind ≡ kinds.Identifier → b.text ≡ override → Modified i (record f { overrides = true }) r

pub data Der : Class → List Lexeme → Tree → List Lexeme → Type 0 where
  -- one that may be absent
  absent : {c : Class} {i : List Lexeme} → Der (Maybe c) i Nil i
  present : {c : Class} {i r : List Lexeme} {t : Tree} → Der c i t r → Der (Maybe c) i t r
  -- any number
  end : {c : Class} {i : List Lexeme} → Der (Many c) i Nil i
  next : {c : Class} {i m r : List Lexeme} {t u : Tree} → Der c i t m → Der (Many c) m u r → Der (Many c) i (Cons t u) r
  -- one or more, separated by commas
  last : {c : Class} {i r : List Lexeme} {t : Tree} → Der c i t r → Der (Several c) i (Cons t Nil) r
  comma : {c : Class} {i m r : List Lexeme} {t u : Tree} (a : Lexeme) → Der c i t (a ∷ m) → a.kind ≡ kinds.Comma → Der (Several c) m u r → Der (Several c) i (Cons t u) r
  -- types
  simple_name : {i : List Lexeme} (a : Lexeme) → a.kind ≡ kinds.Identifier → Der ClassName (a ∷ i) (trees.NamedType a.place a.text) i
  qualified_name : {i : List Lexeme} (a d b : Lexeme) → a.kind ≡ kinds.Identifier → d.kind ≡ kinds.Dot → b.kind ≡ kinds.Identifier
      → Der ClassName (a ∷ d ∷ b ∷ i) (trees.QualifiedType a.place a.text b.text) i
  class_type : {i r : List Lexeme} {t : Tree} → Der ClassName i t r → Der ReferenceType i t r
  generic_type : {i m r : List Lexeme} {t u : Tree} (a b : Lexeme) → Der ClassName i t (a ∷ m) → a.kind ≡ kinds.Less → Der AnyType m u (b ∷ r) → b.kind ≡ kinds.Greater
      → Der ReferenceType i (trees.GenericType (at i) t u) r
  array_type : {i r : List Lexeme} {t : Tree} (a b : Lexeme) → Der AnyType i t (a ∷ b ∷ r) → a.kind ≡ kinds.LeftBracket → b.kind ≡ kinds.RightBracket
      → Der ReferenceType i (trees.ArrayType (at i) t) r
  primitive_type : {i : List Lexeme} {k : Primitive} (a : Lexeme) → primitive_of a.kind ≡ Some k → Der AnyType (a ∷ i) (trees.PrimitiveType a.place k) i
  reference_type : {i r : List Lexeme} {t : Tree} → Der ReferenceType i t r → Der AnyType i t r
  -- primary expressions
  number : {i : List Lexeme} (a : Lexeme) → a.kind ≡ kinds.Number → Der (Primary Other) (a ∷ i) (trees.Number a.place (number_value a.text)) i
  long_number : {i : List Lexeme} (a : Lexeme) → a.kind ≡ kinds.LongNumber → Der (Primary Other) (a ∷ i) (trees.LongNumber a.place (long_number_value a.text)) i
  truth : {i : List Lexeme} (a : Lexeme) → a.kind ≡ kinds.True → Der (Primary Other) (a ∷ i) (trees.Truth a.place true) i
  falsity : {i : List Lexeme} (a : Lexeme) → a.kind ≡ kinds.False → Der (Primary Other) (a ∷ i) (trees.Truth a.place false) i
  null : {i : List Lexeme} (a : Lexeme) → a.kind ≡ kinds.Null → Der (Primary Other) (a ∷ i) (trees.Null a.place) i
  this : {i : List Lexeme} (a : Lexeme) → a.kind ≡ kinds.This → Der (Primary Other) (a ∷ i) (trees.This a.place) i
  -- `\result` and `\old(..)`, wherever there are such tokens
  result_value : {i : List Lexeme} (a : Lexeme) → a.kind ≡ kinds.Result → Der (Primary Other) (a ∷ i) (trees.Result a.place) i
  old_value : {i r : List Lexeme} {t : Tree} (a b c : Lexeme) → a.kind ≡ kinds.Old → b.kind ≡ kinds.LeftParenthesis → Der Expression i t (c ∷ r) → c.kind ≡ kinds.RightParenthesis
      → Der (Primary Other) (a ∷ b ∷ i) (trees.Old a.place t) r
  -- parentheses make no node
  parentheses : {i r : List Lexeme} {t : Tree} (a b : Lexeme) → a.kind ≡ kinds.LeftParenthesis → Der Expression i t (b ∷ r) → b.kind ≡ kinds.RightParenthesis
      → Der (Primary Other) (a ∷ i) t r
  variable : {i : List Lexeme} (a : Lexeme) → a.kind ≡ kinds.Identifier → Der (Primary Target) (a ∷ i) (trees.Variable a.place a.text) i
  call : {i r : List Lexeme} {t : Tree} (a b c : Lexeme) → a.kind ≡ kinds.Identifier → b.kind ≡ kinds.LeftParenthesis → Der (Maybe (Several Expression)) i t (c ∷ r) → c.kind ≡ kinds.RightParenthesis
      → Der (Primary Invocation) (a ∷ b ∷ i) (trees.Call a.place a.text t) r
  super_call : {i r : List Lexeme} {t : Tree} (s d a b c : Lexeme) → s.kind ≡ kinds.Super → d.kind ≡ kinds.Dot → a.kind ≡ kinds.Identifier → b.kind ≡ kinds.LeftParenthesis
      → Der (Maybe (Several Expression)) i t (c ∷ r) → c.kind ≡ kinds.RightParenthesis
      → Der (Primary Invocation) (s ∷ d ∷ a ∷ b ∷ i) (trees.SuperCall s.place a.text t) r
  creation : {i m r : List Lexeme} {t u : Tree} (a b c : Lexeme) → a.kind ≡ kinds.New → Der ClassName i t (b ∷ m) → b.kind ≡ kinds.LeftParenthesis
      → Der (Maybe (Several Expression)) m u (c ∷ r) → c.kind ≡ kinds.RightParenthesis
      → Der (Primary Invocation) (a ∷ i) (trees.ObjectCreation a.place t u) r
  generic_creation : {i m n r : List Lexeme} {t u v : Tree} (a b c d e : Lexeme) → a.kind ≡ kinds.New → Der ClassName i t (b ∷ m) → b.kind ≡ kinds.Less → Der AnyType m u (c ∷ d ∷ n) → c.kind ≡ kinds.Greater
      → d.kind ≡ kinds.LeftParenthesis → Der (Maybe (Several Expression)) n v (e ∷ r) → e.kind ≡ kinds.RightParenthesis
      → Der (Primary Invocation) (a ∷ i) (trees.ObjectCreation a.place (trees.GenericType (at i) t u) v) r
  diamond_creation : {i n r : List Lexeme} {t v : Tree} (a b c d e : Lexeme) → a.kind ≡ kinds.New → Der ClassName i t (b ∷ c ∷ d ∷ n) → b.kind ≡ kinds.Less → c.kind ≡ kinds.Greater
      → d.kind ≡ kinds.LeftParenthesis → Der (Maybe (Several Expression)) n v (e ∷ r) → e.kind ≡ kinds.RightParenthesis
      → Der (Primary Invocation) (a ∷ i) (trees.ObjectCreation a.place (trees.DiamondType (at i) t) v) r
  primitive_array : {i r : List Lexeme} {k : Primitive} {u : Tree} (a p b c : Lexeme) → a.kind ≡ kinds.New → primitive_of p.kind ≡ Some k → b.kind ≡ kinds.LeftBracket
      → Der Expression i u (c ∷ r) → c.kind ≡ kinds.RightBracket
      → Der (Primary ArrayCreation) (a ∷ p ∷ b ∷ i) (trees.ArrayCreation a.place (trees.PrimitiveType p.place k) u) r
  class_array : {i m r : List Lexeme} {t u : Tree} (a b c : Lexeme) → a.kind ≡ kinds.New → Der ClassName i t (b ∷ m) → b.kind ≡ kinds.LeftBracket
      → Der Expression m u (c ∷ r) → c.kind ≡ kinds.RightBracket
      → Der (Primary ArrayCreation) (a ∷ i) (trees.ArrayCreation a.place t u) r
  field_access : {f : Form} {i r : List Lexeme} {t : Tree} (a b : Lexeme) → Der (Primary f) i t (a ∷ b ∷ r) → a.kind ≡ kinds.Dot → b.kind ≡ kinds.Identifier
      → Der (Primary Target) i (trees.FieldAccess (at i) t b.text) r
  method_call : {f : Form} {i m r : List Lexeme} {t u : Tree} (a b c d : Lexeme) → Der (Primary f) i t (a ∷ b ∷ c ∷ m) → a.kind ≡ kinds.Dot → b.kind ≡ kinds.Identifier → c.kind ≡ kinds.LeftParenthesis
      → Der (Maybe (Several Expression)) m u (d ∷ r) → d.kind ≡ kinds.RightParenthesis
      → Der (Primary Invocation) i (trees.MethodCall (at i) t b.text u) r
  -- an array creation isn't followed by an index
  array_access : {f : Form} {i m r : List Lexeme} {t u : Tree} (a b : Lexeme) → Der (Primary f) i t (a ∷ m) → f ≢ ArrayCreation → a.kind ≡ kinds.LeftBracket → Der Expression m u (b ∷ r) → b.kind ≡ kinds.RightBracket
      → Der (Primary Target) i (trees.ArrayAccess (at i) t u) r
  -- expressions with one operand
  primary : {f : Form} {i r : List Lexeme} {t : Tree} → Der (Primary f) i t r → Der Postfix i t r
  stepped_behind : {i r : List Lexeme} {t : Tree} {o : StepOperator} (a : Lexeme) → Der Postfix i t (a ∷ r) → step_behind a.kind ≡ Some o → Der Postfix i (trees.Step (at i) o t) r
  postfix : {i r : List Lexeme} {t : Tree} → Der Postfix i t r → Der Unsigned i t r
  complement : {i r : List Lexeme} {t : Tree} {o : UnaryOperator} (a : Lexeme) → complement_of a.kind ≡ Some o → Der Unary i t r → Der Unsigned (a ∷ i) (trees.Unary a.place o t) r
  primitive_cast : {i r : List Lexeme} {k : Primitive} {t : Tree} (a p b : Lexeme) → a.kind ≡ kinds.LeftParenthesis → primitive_of p.kind ≡ Some k → b.kind ≡ kinds.RightParenthesis → Der Unary i t r
      → Der Unsigned (a ∷ p ∷ b ∷ i) (trees.Cast a.place (trees.PrimitiveType p.place k) t) r
  reference_cast : {i m r : List Lexeme} {t u : Tree} (a b : Lexeme) → a.kind ≡ kinds.LeftParenthesis → Der ReferenceType i t (b ∷ m) → b.kind ≡ kinds.RightParenthesis → Der Unsigned m u r
      → Der Unsigned (a ∷ i) (trees.Cast a.place t u) r
  unsigned : {i r : List Lexeme} {t : Tree} → Der Unsigned i t r → Der Unary i t r
  sign : {i r : List Lexeme} {t : Tree} {o : UnaryOperator} (a : Lexeme) → sign_of a.kind ≡ Some o → Der Unary i t r → Der Unary (a ∷ i) (trees.Unary a.place o t) r
  stepped_before : {i r : List Lexeme} {t : Tree} {o : StepOperator} (a : Lexeme) → step_before a.kind ≡ Some o → Der Unary i t r → Der Unary (a ∷ i) (trees.Step a.place o t) r
  -- binary expressions: nothing looser to the left of an operator, only tighter to its right
  operand : {i r : List Lexeme} {t : Tree} → Der Unary i t r → Der (Operation 11) i t r
  binary : {l x y : ℕ} {i m r : List Lexeme} {t u : Tree} {o : BinaryOperator} (a : Lexeme) → Der (Operation x) i t (a ∷ m) → binary_of a.kind ≡ Some o → level o ≡ l → l ≤ x
      → Der (Operation y) m u r → l < y → Der (Operation l) i (trees.Binary (at i) o t u) r
  instance_of : {x : ℕ} {i m r : List Lexeme} {t u : Tree} (a : Lexeme) → Der (Operation x) i t (a ∷ m) → a.kind ≡ kinds.Instanceof → 7 ≤ x
      → Der ReferenceType m u r → Der (Operation 7) i (trees.InstanceOf (at i) t u) r
  operation : {x : ℕ} {i r : List Lexeme} {t : Tree} → Der (Operation x) i t r → Der Conditional i t r
  choice : {x : ℕ} {i m n r : List Lexeme} {c t u : Tree} (a b : Lexeme) → Der (Operation x) i c (a ∷ m) → a.kind ≡ kinds.Question → Der Expression m t (b ∷ n) → b.kind ≡ kinds.Colon → Der Conditional n u r
      → Der Conditional i (trees.Conditional (at i) c t u) r
  assign : {i m r : List Lexeme} {t u : Tree} (a : Lexeme) → Der (Primary Target) i t (a ∷ m) → a.kind ≡ kinds.Equal → Der Expression m u r → Der Assignment i (trees.Assignment (at i) t u) r
  compound : {i m r : List Lexeme} {t u : Tree} {o : BinaryOperator} (a : Lexeme) → Der (Primary Target) i t (a ∷ m) → compound_of a.kind ≡ Some o → Der Expression m u r
      → Der Assignment i (trees.CompoundAssignment (at i) o t u) r
  conditional : {i r : List Lexeme} {t : Tree} → Der Conditional i t r → Der Expression i t r
  assignment : {i r : List Lexeme} {t : Tree} → Der Assignment i t r → Der Expression i t r
  -- locals, and expressions that are statements
  declarator : {i : List Lexeme} (a : Lexeme) → a.kind ≡ kinds.Identifier → Der Declarator (a ∷ i) (trees.Declarator a.place a.text Nil) i
  initialised : {i r : List Lexeme} {t : Tree} (a b : Lexeme) → a.kind ≡ kinds.Identifier → b.kind ≡ kinds.Equal → Der Expression i t r → Der Declarator (a ∷ b ∷ i) (trees.Declarator a.place a.text t) r
  local : {i m r : List Lexeme} {t u : Tree} → Der AnyType i t m → Der (Several Declarator) m u r → Der Local i (trees.Local (at i) t u) r
  final_local : {i m r : List Lexeme} {t u : Tree} (a : Lexeme) → a.kind ≡ kinds.Final → Der AnyType i t m → Der (Several Declarator) m u r → Der Local (a ∷ i) (trees.Local (at i) t u) r
  assigns : {i r : List Lexeme} {t : Tree} → Der Assignment i t r → Der StatementExpression i t r
  steps : {i r : List Lexeme} {t : Tree} {o : StepOperator} (a : Lexeme) → step_before a.kind ≡ Some o → Der Unary i t r → Der StatementExpression (a ∷ i) (trees.Step a.place o t) r
  is_stepped : {f : Form} {i r : List Lexeme} {t : Tree} {o : StepOperator} (a : Lexeme) → Der (Primary f) i t (a ∷ r) → step_behind a.kind ≡ Some o → Der StatementExpression i (trees.Step (at i) o t) r
  invokes : {i r : List Lexeme} {t : Tree} → Der (Primary Invocation) i t r → Der StatementExpression i t r
  evaluated : {i r : List Lexeme} {t : Tree} → Der StatementExpression i t r → Der Evaluated i (trees.ExpressionStatement (at i) t) r
  -- statements
  local_statement : {i r : List Lexeme} {t : Tree} (a : Lexeme) → Der Local i t (a ∷ r) → a.kind ≡ kinds.Semicolon → Der BlockStatement i t r
  statement : {i r : List Lexeme} {t : Tree} → Der Statement i t r → Der BlockStatement i t r
  block : {i r : List Lexeme} {t : Tree} (a b : Lexeme) → a.kind ≡ kinds.LeftBrace → Der (Many BlockStatement) i t (b ∷ r) → b.kind ≡ kinds.RightBrace → Der Statement (a ∷ i) (trees.Block a.place t) r
  empty : {i : List Lexeme} (a : Lexeme) → a.kind ≡ kinds.Semicolon → Der Statement (a ∷ i) (trees.Empty a.place) i
  evaluate : {i r : List Lexeme} {t : Tree} (a : Lexeme) → Der Evaluated i t (a ∷ r) → a.kind ≡ kinds.Semicolon → Der Statement i t r
  return : {i r : List Lexeme} {t : Tree} (a b : Lexeme) → a.kind ≡ kinds.Return → Der (Maybe Expression) i t (b ∷ r) → b.kind ≡ kinds.Semicolon → Der Statement (a ∷ i) (trees.Return a.place t) r
  break : {i : List Lexeme} (a b : Lexeme) → a.kind ≡ kinds.Break → b.kind ≡ kinds.Semicolon → Der Statement (a ∷ b ∷ i) (trees.Break a.place) i
  continue : {i : List Lexeme} (a b : Lexeme) → a.kind ≡ kinds.Continue → b.kind ≡ kinds.Semicolon → Der Statement (a ∷ b ∷ i) (trees.Continue a.place) i
  if_then : {i m r : List Lexeme} {c s : Tree} (a b d : Lexeme) → a.kind ≡ kinds.If → b.kind ≡ kinds.LeftParenthesis → Der Expression i c (d ∷ m) → d.kind ≡ kinds.RightParenthesis → Der Statement m s r
      → Der Statement (a ∷ b ∷ i) (IfThen a.place c s) r
  -- `else` belongs to the nearest `if`: the statement before it doesn't end in an `if` without one
  if_else : {i m n r : List Lexeme} {c s u : Tree} (a b d e : Lexeme) → a.kind ≡ kinds.If → b.kind ≡ kinds.LeftParenthesis → Der Expression i c (d ∷ m) → d.kind ≡ kinds.RightParenthesis
      → Der Statement m s (e ∷ n) → e.kind ≡ kinds.Else → ¬ (EndsOpen s) → Der Statement n u r
      → Der Statement (a ∷ b ∷ i) (IfElse a.place c s u) r
  while : {i m r : List Lexeme} {c s : Tree} (a b d : Lexeme) → a.kind ≡ kinds.While → b.kind ≡ kinds.LeftParenthesis → Der Expression i c (d ∷ m) → d.kind ≡ kinds.RightParenthesis → Der Statement m s r
      → Der Statement (a ∷ b ∷ i) (While a.place c s) r
  do_while : {i m r : List Lexeme} {c s : Tree} (a b d e g : Lexeme) → a.kind ≡ kinds.Do → Der Statement i s (b ∷ d ∷ m) → b.kind ≡ kinds.While → d.kind ≡ kinds.LeftParenthesis → Der Expression m c (e ∷ g ∷ r)
      → e.kind ≡ kinds.RightParenthesis → g.kind ≡ kinds.Semicolon → Der Statement (a ∷ i) (trees.Do a.place s c) r
  for : {i j m n r : List Lexeme} {k c u s : Tree} (a b d e g : Lexeme) → a.kind ≡ kinds.For → b.kind ≡ kinds.LeftParenthesis → Der (Maybe ForInitial) i k (d ∷ j) → d.kind ≡ kinds.Semicolon
      → Der (Maybe Expression) j c (e ∷ m) → e.kind ≡ kinds.Semicolon → Der (Maybe (Several StatementExpression)) m u (g ∷ n) → g.kind ≡ kinds.RightParenthesis → Der Statement n s r
      → Der Statement (a ∷ b ∷ i) (For a.place k c u s) r
  throw : {i r : List Lexeme} {t : Tree} (a b : Lexeme) → a.kind ≡ kinds.Throw → Der Expression i t (b ∷ r) → b.kind ≡ kinds.Semicolon → Der Statement (a ∷ i) (trees.Throw a.place t) r
  try : {i m k r : List Lexeme} {t c u : Tree} (a b d : Lexeme) → a.kind ≡ kinds.Try → b.kind ≡ kinds.LeftBrace → Der (Many BlockStatement) i t (d ∷ m) → d.kind ≡ kinds.RightBrace
      → Der Catch m c k → Der (Many Catch) k u r
      → Der Statement (a ∷ b ∷ i) (trees.Try a.place (trees.Block b.place t) (Cons c u)) r
  caught : {i r : List Lexeme} {t : Tree} (n : Lexeme) → Der ClassName i t (n ∷ r) → n.kind ≡ kinds.Identifier → Der Caught i (trees.Parameter n.place t n.text) r
  final_caught : {i r : List Lexeme} {t : Tree} (a n : Lexeme) → a.kind ≡ kinds.Final → Der ClassName i t (n ∷ r) → n.kind ≡ kinds.Identifier → Der Caught (a ∷ i) (trees.Parameter n.place t n.text) r
  catch : {i m r : List Lexeme} {t u : Tree} (a b d e g : Lexeme) → a.kind ≡ kinds.Catch → b.kind ≡ kinds.LeftParenthesis → Der Caught i t (d ∷ e ∷ m) → d.kind ≡ kinds.RightParenthesis
      → e.kind ≡ kinds.LeftBrace → Der (Many BlockStatement) m u (g ∷ r) → g.kind ≡ kinds.RightBrace
      → Der Catch (a ∷ b ∷ i) (trees.Catch a.place t (trees.Block e.place u)) r
  for_local : {i r : List Lexeme} {t : Tree} → Der Local i t r → Der ForInitial i (Cons t Nil) r
  for_expressions : {i r : List Lexeme} {t : Tree} → Der (Several Evaluated) i t r → Der ForInitial i t r
  -- members
  parameter : {i r : List Lexeme} {t : Tree} (n : Lexeme) → Der AnyType i t (n ∷ r) → n.kind ≡ kinds.Identifier → Der Parameter i (trees.Parameter n.place t n.text) r
  final_parameter : {i r : List Lexeme} {t : Tree} (a n : Lexeme) → a.kind ≡ kinds.Final → Der AnyType i t (n ∷ r) → n.kind ≡ kinds.Identifier → Der Parameter (a ∷ i) (trees.Parameter n.place t n.text) r
  void : {i : List Lexeme} (a : Lexeme) → a.kind ≡ kinds.Void → Der ResultType (a ∷ i) (trees.PrimitiveType a.place primitives.Void) i
  result : {i r : List Lexeme} {t : Tree} → Der AnyType i t r → Der ResultType i t r
  calls_super : {i r : List Lexeme} {t : Tree} (a b c d : Lexeme) → a.kind ≡ kinds.Super → b.kind ≡ kinds.LeftParenthesis → Der (Maybe (Several Expression)) i t (c ∷ d ∷ r) → c.kind ≡ kinds.RightParenthesis → d.kind ≡ kinds.Semicolon
      → Der ConstructorCall (a ∷ b ∷ i) (trees.ConstructorCall a.place t) r
  nested : {o : List ℕ} {i j r : List Lexeme} {f : Modifiers} {t : Tree} → Modified i f j → f.is_static ≡ true → f.overrides ≡ false → Der (ClassDeclaration true) j t r → Der (Member o false) i t r
  field : {o : List ℕ} {n : Bool} {i j m r : List Lexeme} {f : Modifiers} {t u : Tree} (a : Lexeme) → Modified i f j → f.overrides ≡ false → Der AnyType j t m → Der (Several Declarator) m u (a ∷ r) → a.kind ≡ kinds.Semicolon
      → Der (Member o n) i (trees.Field (at j) f.is_static f.is_final t u) r
  -- contracts come before methods only
  precondition : {i r : List Lexeme} {t : Tree} (a b c : Lexeme) → a.kind ≡ kinds.Contract → b.kind ≡ kinds.Requires → Der Expression i t (c ∷ r) → c.kind ≡ kinds.Semicolon
      → Der Contract (a ∷ b ∷ i) (trees.Requires a.place t) r
  postcondition : {i r : List Lexeme} {t : Tree} (a b c : Lexeme) → a.kind ≡ kinds.Contract → b.kind ≡ kinds.Ensures → Der Expression i t (c ∷ r) → c.kind ≡ kinds.Semicolon
      → Der Contract (a ∷ b ∷ i) (trees.Ensures a.place t) r
  -- an exception that the method may throw
  exception : {i m r : List Lexeme} {t u : Tree} (a b c d e : Lexeme) → a.kind ≡ kinds.Contract → b.kind ≡ kinds.Signals → c.kind ≡ kinds.LeftParenthesis → Der ClassName i t (d ∷ m) → d.kind ≡ kinds.RightParenthesis
      → Der Expression m u (e ∷ r) → e.kind ≡ kinds.Semicolon
      → Der Contract (a ∷ b ∷ c ∷ i) (trees.Signals a.place t u) r
  named_exception : {i m r : List Lexeme} {t u : Tree} (a b c n d e : Lexeme) → a.kind ≡ kinds.Contract → b.kind ≡ kinds.Signals → c.kind ≡ kinds.LeftParenthesis → Der ClassName i t (n ∷ d ∷ m) → n.kind ≡ kinds.Identifier
      → d.kind ≡ kinds.RightParenthesis → Der Expression m u (e ∷ r) → e.kind ≡ kinds.Semicolon
      → Der Contract (a ∷ b ∷ c ∷ i) (trees.Signals a.place (trees.Parameter n.place t n.text) u) r
  method : {o : List ℕ} {n : Bool} {h i j m k r : List Lexeme} {f : Modifiers} {v t u s : Tree} (a b c d e : Lexeme) → Der (Many Contract) h v i → Modified i f j → Der ResultType j t (a ∷ b ∷ m) → a.kind ≡ kinds.Identifier → b.kind ≡ kinds.LeftParenthesis
      → Der (Maybe (Several Parameter)) m u (c ∷ d ∷ k) → c.kind ≡ kinds.RightParenthesis → d.kind ≡ kinds.LeftBrace → Der (Many BlockStatement) k s (e ∷ r) → e.kind ≡ kinds.RightBrace
      → Der (Member o n) h (trees.Method a.place f.is_static a.text (trees.Signature a.place t u v) s) r
  -- a constructor has its class's name, and no modifiers but access
  constructor : {o : List ℕ} {n : Bool} {i m j k r : List Lexeme} {u s t : Tree} (a b c d e : Lexeme) → Modified i no_modifiers (a ∷ b ∷ m) → a.kind ≡ kinds.Identifier → a.text ≡ o → b.kind ≡ kinds.LeftParenthesis
      → Der (Maybe (Several Parameter)) m u (c ∷ d ∷ j) → c.kind ≡ kinds.RightParenthesis → d.kind ≡ kinds.LeftBrace → Der (Maybe ConstructorCall) j s k → Der (Many BlockStatement) k t (e ∷ r) → e.kind ≡ kinds.RightBrace
      → Der (Member o n) i (trees.Constructor a.place u s t) r
  no_member : {o : List ℕ} {n : Bool} {i : List Lexeme} → Der (Members o n) i Nil i
  skip_member : {o : List ℕ} {n : Bool} {i r : List Lexeme} {t : Tree} (a : Lexeme) → a.kind ≡ kinds.Semicolon → Der (Members o n) i t r → Der (Members o n) (a ∷ i) t r
  member : {o : List ℕ} {n : Bool} {i m r : List Lexeme} {t u : Tree} → Der (Member o n) i t m → Der (Members o n) m u r → Der (Members o n) i (Cons t u) r
  -- classes; members of a nested class are no classes
  not_extended : {i : List Lexeme} → Der Extended i Nil i
  extended : {i r : List Lexeme} {t : Tree} (a : Lexeme) → a.kind ≡ kinds.Extends → Der ClassName i t r → Der Extended (a ∷ i) t r
  class : {n : Bool} {i m r : List Lexeme} {t u : Tree} (a b c d : Lexeme) → a.kind ≡ kinds.Class → b.kind ≡ kinds.Identifier → Der Extended i t (c ∷ m) → c.kind ≡ kinds.LeftBrace
      → Der (Members b.text n) m u (d ∷ r) → d.kind ≡ kinds.RightBrace → Der (ClassDeclaration n) (a ∷ b ∷ i) (trees.Class b.place b.text t u) r
  no_class : {i : List Lexeme} → Der Classes i Nil i
  skip_class : {i r : List Lexeme} {t : Tree} (a : Lexeme) → a.kind ≡ kinds.Semicolon → Der Classes i t r → Der Classes (a ∷ i) t r
  another : {i j m r : List Lexeme} {f : Modifiers} {t u : Tree} → Modified i f j → f.overrides ≡ false → Der (ClassDeclaration false) j t m → Der Classes m u r → Der Classes i (Cons t u) r

-- further names, each after a dot
pub data Dotted : List Lexeme → List Lexeme → Type 0 where
  no_more : {i : List Lexeme} → Dotted i i
  dot : {i r : List Lexeme} (a b : Lexeme) → a.kind ≡ kinds.Dot → b.kind ≡ kinds.Identifier → Dotted i r → Dotted (a ∷ b ∷ i) r

-- a name or `*`
pub data Imported : Kind → Type 0 where
  name : {k : Kind} → k ≡ kinds.Identifier → Imported k
  all : {k : Kind} → k ≡ kinds.Star → Imported k

-- imports from `java.util`; they have no effect
pub data Imports : List Lexeme → List Lexeme → Type 0 where
  no_import : {i : List Lexeme} → Imports i i
  import : {i r : List Lexeme} (a b c d e f g : Lexeme) → a.kind ≡ kinds.Import → b.kind ≡ kinds.Identifier → b.text ≡ java → c.kind ≡ kinds.Dot → d.kind ≡ kinds.Identifier → d.text ≡ util → e.kind ≡ kinds.Dot
      → Imported f.kind → g.kind ≡ kinds.Semicolon → Imports i r → Imports (a ∷ b ∷ c ∷ d ∷ e ∷ f ∷ g ∷ i) r

-- the text before the classes
pub data Heading : List Lexeme → List Lexeme → Type 0 where
  unpackaged : {i r : List Lexeme} → Imports i r → Heading i r
  packaged : {i m r : List Lexeme} (a b c : Lexeme) → a.kind ≡ kinds.Package → b.kind ≡ kinds.Identifier → Dotted i (c ∷ m) → c.kind ≡ kinds.Semicolon → Imports m r → Heading (a ∷ b ∷ i) r

-- the tokens spell a file with this tree: the list of its classes
abbrev pub Derives : List Lexeme → Tree → Type 0
Derives i t = (j : List Lexeme) × Heading i j × Der Classes j t []
