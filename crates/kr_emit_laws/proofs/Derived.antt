-- The tokens of builders have their tree.
use Rattle.std.proofs.Common.{◌≡◌, ℕ, suc, ◌+◌, ◌^◌, ◌<◌, ◌≤◌, Bool, true, false, List, [], ◌∷◌, ◌++◌, length, refl, subst, arith}
use Rattle.std.specs.Prelude.{ℤ, pos, negsuc, codes, decimal, Some}
use Rattle.std.specs.List.{AllByRecursion}
use Rattle.kr_ast.specs.Tree as trees
use Rattle.kr_ast.specs.Tree.{Tree, Nil, Cons}
use Rattle.kr_ast.specs.declared.node.Primitive.{Primitive}
use Rattle.kr_ast.specs.declared.node.Primitive.TheVariants as primitives
use Rattle.kr_ast.specs.declared.node.UnaryOperator.TheVariants.{Minus}
use Rattle.kr_base.specs.declared.place.Place.{Place}
use Rattle.kr_lex.specs.Lexemes.{Lexeme}
use Rattle.kr_lex.specs.declared.kind.Kind.{Kind}
use Rattle.kr_lex.specs.declared.kind.Kind.TheVariants as kinds
use Rattle.kr_parse_grammar.specs.declared.value.Form.{Form}
use Rattle.kr_parse_grammar.specs.declared.value.Form.TheVariants as forms
use Rattle.kr_parse_grammar.specs.Grammar as grammar
use Rattle.kr_parse_grammar.specs.Grammar.{Der, Derives, at}
use Rattle.kr_parse_grammar.specs.TokenMeanings.{primitive_of}
use Rattle.kr_emit_meaning.specs.Buildable.{builders_name}
use Rattle.kr_emit_laws.specs.Syntax.{Builder, Line, Creates, CreatesArray, SetsField, SetsElement, Operand, Whole, Boolean, NullOperand, Local, TypeName, PrimitiveName, SimpleName, NestedName}
use Rattle.kr_emit_laws.specs.Pieces as pieces
use Rattle.kr_emit_laws.specs.Pieces.{Piece, tokens_of, after_pieces, local_name}
use Rattle.kr_emit_laws.specs.BuilderTree as tree
use Rattle.kr_emit_laws.specs.Printable.{IsClassName, IsWritten, IsWrittenOperand, IsPrintableLine, IsPrintable, ArePrintable, limit_of}
use Rattle.kr_emit_laws.proofs.Tokens.{number_read, long_read}

-- ---- parts of the grammar

unary : {f : Form} {i r : List Lexeme} {t : Tree} → Der (grammar.Primary f) i t r → Der grammar.Unary i t r
unary d = grammar.unsigned (grammar.postfix (grammar.primary d))

expression_of : {i r : List Lexeme} {t : Tree} → Der grammar.Unary i t r → Der grammar.Expression i t r
expression_of d = grammar.conditional (grammar.operation (grammar.operand d))

expression : {f : Form} {i r : List Lexeme} {t : Tree} → Der (grammar.Primary f) i t r → Der grammar.Expression i t r
expression d = expression_of (unary d)

-- a name, and a symbol
abbrev word : List ℕ → Place → Lexeme
word text p = record { kind = kinds.Identifier; text = text; place = p }

abbrev symbol : Kind → List ℕ → Place → Lexeme
symbol kind text p = record { kind = kind; text = text; place = p }

-- `T name = e;`
declared : {i m r : List Lexeme} {t u : Tree} {text : List ℕ} {p q s : Place} → Der grammar.AnyType i t (word text p ∷ symbol kinds.Equal (codes "=") q ∷ m) → Der grammar.Expression m u (symbol kinds.Semicolon (codes ";") s ∷ r)
    → Der grammar.BlockStatement i (trees.Local (at i) t (Cons (trees.Declarator p text u) Nil)) r
declared {text = text} {p = p} {q = q} {s = s} t u =
    grammar.local_statement (symbol kinds.Semicolon (codes ";") s) (grammar.local t (grammar.last (grammar.initialised (word text p) (symbol kinds.Equal (codes "=") q) refl refl u))) refl

-- `target = e;`
assigned : {i m r : List Lexeme} {t u : Tree} {q s : Place} → Der (grammar.Primary forms.Target) i t (symbol kinds.Equal (codes "=") q ∷ m) → Der grammar.Expression m u (symbol kinds.Semicolon (codes ";") s ∷ r)
    → Der grammar.BlockStatement i (trees.ExpressionStatement (at i) (trees.Assignment (at i) t u)) r
assigned {q = q} {s = s} t u = grammar.statement (grammar.evaluate (symbol kinds.Semicolon (codes ";") s) (grammar.evaluated (grammar.assigns (grammar.assign (symbol kinds.Equal (codes "=") q) t refl u))) refl)

-- `T[]`
array_of : {i r : List Lexeme} {t : Tree} {p q : Place} → Der grammar.AnyType i t (symbol kinds.LeftBracket (codes "[") p ∷ symbol kinds.RightBracket (codes "]") q ∷ r) → Der grammar.AnyType i (trees.ArrayType (at i) t) r
array_of {p = p} {q = q} t = grammar.reference_type (grammar.array_type (symbol kinds.LeftBracket (codes "[") p) (symbol kinds.RightBracket (codes "]") q) t refl refl)

-- `new T()`
new_object : {i r : List Lexeme} {t : Tree} {n p q : Place} → Der grammar.ClassName i t (symbol kinds.LeftParenthesis (codes "(") p ∷ symbol kinds.RightParenthesis (codes ")") q ∷ r)
    → Der grammar.Expression (symbol kinds.New (codes "new") n ∷ i) (trees.ObjectCreation n t Nil) r
new_object {n = n} {p = p} {q = q} t =
    expression (grammar.creation (symbol kinds.New (codes "new") n) (symbol kinds.LeftParenthesis (codes "(") p) (symbol kinds.RightParenthesis (codes ")") q) refl t refl grammar.absent refl)

-- `new T[e]`
new_array : {i m r : List Lexeme} {t u : Tree} {n p q : Place} → Der grammar.ClassName i t (symbol kinds.LeftBracket (codes "[") p ∷ m) → Der grammar.Expression m u (symbol kinds.RightBracket (codes "]") q ∷ r)
    → Der grammar.Expression (symbol kinds.New (codes "new") n ∷ i) (trees.ArrayCreation n t u) r
new_array {n = n} {p = p} {q = q} t u =
    expression (grammar.class_array (symbol kinds.New (codes "new") n) (symbol kinds.LeftBracket (codes "[") p) (symbol kinds.RightBracket (codes "]") q) refl t refl u refl)

new_values : {i r : List Lexeme} {u : Tree} {k : Primitive} {kind : Kind} {text : List ℕ} {n o p q : Place} → primitive_of kind ≡ Some k → Der grammar.Expression i u (symbol kinds.RightBracket (codes "]") q ∷ r)
    → Der grammar.Expression (symbol kinds.New (codes "new") n ∷ symbol kind text o ∷ symbol kinds.LeftBracket (codes "[") p ∷ i) (trees.ArrayCreation n (trees.PrimitiveType o k) u) r
new_values {kind = kind} {text = text} {n = n} {o = o} {p = p} {q = q} e u =
    expression (grammar.primitive_array (symbol kinds.New (codes "new") n) (symbol kind text o) (symbol kinds.LeftBracket (codes "[") p) (symbol kinds.RightBracket (codes "]") q) refl e refl u refl)

value_type : {i : List Lexeme} {k : Primitive} {kind : Kind} {text : List ℕ} {o : Place} → primitive_of kind ≡ Some k → Der grammar.AnyType (symbol kind text o ∷ i) (trees.PrimitiveType o k) i
value_type {kind = kind} {text = text} {o = o} e = grammar.primitive_type (symbol kind text o) e

variable : {i : List Lexeme} {text : List ℕ} {p : Place} → Der (grammar.Primary forms.Target) (word text p ∷ i) (trees.Variable p text) i
variable {text = text} {p = p} = grammar.variable (word text p) refl

-- `v.f` and `v[e]`
field_of : {r : List Lexeme} {text field : List ℕ} {p q o : Place} → Der (grammar.Primary forms.Target) (word text p ∷ symbol kinds.Dot (codes ".") q ∷ word field o ∷ r) (trees.FieldAccess p (trees.Variable p text) field) r
field_of {text = text} {field = field} {p = p} {q = q} {o = o} = grammar.field_access (symbol kinds.Dot (codes ".") q) (word field o) variable refl refl

element_of : {i r : List Lexeme} {text : List ℕ} {u : Tree} {p q o : Place} → Der grammar.Expression i u (symbol kinds.RightBracket (codes "]") o ∷ r)
    → Der (grammar.Primary forms.Target) (word text p ∷ symbol kinds.LeftBracket (codes "[") q ∷ i) (trees.ArrayAccess p (trees.Variable p text) u) r
element_of {text = text} {p = p} {q = q} {o = o} u = grammar.array_access (symbol kinds.LeftBracket (codes "[") q) (symbol kinds.RightBracket (codes "]") o) variable (λ e. cc) refl u refl

-- `return v;`
returned : {r : List Lexeme} {text : List ℕ} {p q s : Place} → Der grammar.BlockStatement (symbol kinds.Return (codes "return") p ∷ word text q ∷ symbol kinds.Semicolon (codes ";") s ∷ r) (trees.Return p (trees.Variable q text)) r
returned {text = text} {p = p} {q = q} {s = s} = grammar.statement (grammar.return (symbol kinds.Return (codes "return") p) (symbol kinds.Semicolon (codes ";") s) refl (grammar.present (expression variable)) refl)

-- `static T m() { .. }`
static_method : {o : List ℕ} {n : Bool} {i k r : List Lexeme} {t s : Tree} {text : List ℕ} {h a b c d e : Place}
    → Der grammar.AnyType i t (word text a ∷ symbol kinds.LeftParenthesis (codes "(") b ∷ symbol kinds.RightParenthesis (codes ")") c ∷ symbol kinds.LeftBrace (codes "{") d ∷ k)
    → Der (grammar.Many grammar.BlockStatement) k s (symbol kinds.RightBrace (codes "}") e ∷ r)
    → Der (grammar.Member o n) (symbol kinds.Static (codes "static") h ∷ i) (trees.Method a true text (trees.Signature a t Nil Nil) s) r
static_method {text = text} {h = h} {a = a} {b = b} {c = c} {d = d} {e = e} t s =
    grammar.method (word text a) (symbol kinds.LeftParenthesis (codes "(") b) (symbol kinds.RightParenthesis (codes ")") c) (symbol kinds.LeftBrace (codes "{") d) (symbol kinds.RightBrace (codes "}") e)
    grammar.end (grammar.static (symbol kinds.Static (codes "static") h) grammar.nothing refl) (grammar.result t) refl refl grammar.absent refl refl s refl

-- `class C { .. }`, and no other
one_class : {m : List Lexeme} {u : Tree} {text : List ℕ} {p q b e : Place} → Der (grammar.Members text false) m u (symbol kinds.RightBrace (codes "}") e ∷ [])
    → Derives (symbol kinds.Class (codes "class") p ∷ word text q ∷ symbol kinds.LeftBrace (codes "{") b ∷ m) (Cons (trees.Class q text Nil u) Nil)
one_class {m} {text = text} {p = p} {q = q} {b = b} {e = e} u = (
  symbol kinds.Class (codes "class") p ∷ word text q ∷ symbol kinds.LeftBrace (codes "{") b ∷ m,
  grammar.unpackaged grammar.no_import,
  grammar.another grammar.nothing refl (grammar.class (symbol kinds.Class (codes "class") p) (word text q) (symbol kinds.LeftBrace (codes "{") b) (symbol kinds.RightBrace (codes "}") e) refl refl grammar.not_extended refl u refl) grammar.no_class,
)

-- ---- parts of lines

module _ (place : List ℕ → Place) where
  class_name : (front : List ℕ) (t : TypeName) (more : List Piece) → IsClassName t → Der grammar.ClassName (tokens_of place front (pieces.type t more)) (tree.type_tree (place front) t) (tokens_of place (tree.type_end front t) more)
  class_name front (PrimitiveName k) more h = absurd h
  class_name front (SimpleName text) more h = grammar.simple_name _ refl
  class_name front (NestedName outer text) more h = grammar.qualified_name _ _ _ refl refl refl

  class_type : (front : List ℕ) (t : TypeName) (more : List Piece) → IsClassName t → Der grammar.AnyType (tokens_of place front (pieces.type t more)) (tree.type_tree (place front) t) (tokens_of place (tree.type_end front t) more)
  class_type front t more h = grammar.reference_type (grammar.class_type (class_name front t more h))

  number : (front : List ℕ) (is_long : Bool) (n : ℕ) (more : List Piece) → n < 10 ^ 64
      → Der (grammar.Primary forms.Other) (tokens_of place front (pieces.number is_long n more)) (tree.number_tree (place front) is_long n) (tokens_of place (after_pieces front (pieces.number is_long n [])) more)
  number front true n more h =
      subst (λ (v : ℕ). Der (grammar.Primary forms.Other) (tokens_of place front (pieces.number true n more)) (trees.LongNumber (place front) v) (tokens_of place (front ++ (decimal n ++ codes "L")) more)) (long_read n h)
      (grammar.long_number _ refl)
  number front false n more h =
      subst (λ (v : ℕ). Der (grammar.Primary forms.Other) (tokens_of place front (pieces.number false n more)) (trees.Number (place front) v) (tokens_of place (front ++ decimal n) more)) (number_read n h)
      (grammar.number _ refl)

  limit_small : (is_long : Bool) (m : ℕ) → m ≤ limit_of is_long → m < 10 ^ 64
  limit_small true m h = omega (arith, h)
  limit_small false m h = omega (arith, h)

  whole : (front : List ℕ) (is_long : Bool) (z : ℤ) (more : List Piece) → IsWritten is_long z
      → Der grammar.Expression (tokens_of place front (pieces.whole is_long z more)) (tree.whole_tree place front is_long z) (tokens_of place (after_pieces front (pieces.whole is_long z [])) more)
  whole front is_long (pos n) more h = expression (number front is_long n more (limit_small is_long n h))
  whole front is_long (negsuc n) more h = expression_of (grammar.sign {o = Minus} _ refl (unary (number (front ++ codes "-") is_long (suc n) more (limit_small is_long (suc n) h))))

  operand : (front : List ℕ) (v : Operand) (more : List Piece) → IsWrittenOperand v
      → Der grammar.Expression (tokens_of place front (pieces.operand v more)) (tree.operand_tree place front v) (tokens_of place (tree.operand_end front v) more)
  operand front (Whole is_long z) more h = whole front is_long z more h
  operand front (Boolean true) more h = expression (grammar.truth _ refl)
  operand front (Boolean false) more h = expression (grammar.falsity _ refl)
  operand front NullOperand more h = expression (grammar.null _ refl)
  operand front (Local n) more h = expression (grammar.variable _ refl)

  -- ---- lines

  -- the length and the rest of a line that creates an array
  abbrev length_pieces : ℤ → List Piece → List Piece
  length_pieces length more = pieces.whole false length (pieces.right (pieces.semicolon more))

  abbrev array_pieces : TypeName → ℕ → ℤ → List Piece → List Piece
  array_pieces t n length more = pieces.left (pieces.right (pieces.created n t (pieces.left (length_pieces length more))))

  statement : (front : List ℕ) (a : Line) (more : List Piece) → IsPrintableLine a
      → Der grammar.BlockStatement (tokens_of place front (pieces.statement a more)) (tree.statement_tree place front a) (tokens_of place (tree.statement_end front a) more)
  statement front (Creates (PrimitiveName k) n) more h = absurd h.0
  statement front (Creates (SimpleName text) n) more h =
      let t = SimpleName text in
      let end = pieces.parentheses (pieces.semicolon more) in
      declared (class_type front t (pieces.created n t end) h.0) (new_object (class_name (tree.created_start (tree.type_end front t) n) t end h.0))
  statement front (Creates (NestedName outer text) n) more h =
      let t = NestedName outer text in
      let end = pieces.parentheses (pieces.semicolon more) in
      declared (class_type front t (pieces.created n t end) h.0) (new_object (class_name (tree.created_start (tree.type_end front t) n) t end h.0))
  statement front (CreatesArray (PrimitiveName primitives.Int) n length) more h =
      let t = PrimitiveName primitives.Int in
      declared (array_of (value_type refl)) (new_values refl (whole (tree.length_start front n t) false length (pieces.right (pieces.semicolon more)) h.2))
  statement front (CreatesArray (PrimitiveName primitives.Long) n length) more h =
      let t = PrimitiveName primitives.Long in
      declared (array_of (value_type refl)) (new_values refl (whole (tree.length_start front n t) false length (pieces.right (pieces.semicolon more)) h.2))
  statement front (CreatesArray (PrimitiveName primitives.Boolean) n length) more h =
      let t = PrimitiveName primitives.Boolean in
      declared (array_of (value_type refl)) (new_values refl (whole (tree.length_start front n t) false length (pieces.right (pieces.semicolon more)) h.2))
  statement front (CreatesArray (PrimitiveName primitives.Void) n length) more h = absurd h.0
  statement front (CreatesArray (SimpleName text) n length) more h =
      let t = SimpleName text in
      declared (array_of (class_type front t (array_pieces t n length more) h.0))
      (new_array (class_name (tree.created_start (tree.array_end front t) n) t (pieces.left (length_pieces length more)) h.0) (whole (tree.length_start front n t) false length (pieces.right (pieces.semicolon more)) h.2))
  statement front (CreatesArray (NestedName outer text) n length) more h =
      let t = NestedName outer text in
      declared (array_of (class_type front t (array_pieces t n length more) h.0))
      (new_array (class_name (tree.created_start (tree.array_end front t) n) t (pieces.left (length_pieces length more)) h.0) (whole (tree.length_start front n t) false length (pieces.right (pieces.semicolon more)) h.2))
  statement front (SetsField n field v) more h = assigned field_of (operand (tree.field_start front n field) v (pieces.semicolon more) h.2)
  statement front (SetsElement n index v) more h =
      assigned (element_of (expression (number (front ++ local_name n ++ codes "[") false index (pieces.right (pieces.equals (pieces.operand v (pieces.semicolon more)))) (omega (arith, h.1)))))
      (operand (tree.element_start front n index) v (pieces.semicolon more) h.2)

  body : (front : List ℕ) (lines : List Line) (more : List Piece) → AllByRecursion IsPrintableLine lines
      → Der (grammar.Many grammar.BlockStatement) (tokens_of place front (pieces.body lines (pieces.indent (pieces.close_brace more)))) (tree.body_tree place front lines)
      (tokens_of place (tree.body_end front lines) (pieces.indent (pieces.close_brace more)))
  body front [] more h = grammar.next returned grammar.end
  body front (a ∷ lines) more h = grammar.next (statement (tree.line_start front) a (pieces.body lines (pieces.indent (pieces.close_brace more))) h.0) (body (tree.statement_end (tree.line_start front) a) lines more h.1)

  method : (front : List ℕ) (n : ℕ) (b : Builder) (more : List Piece) → IsPrintable b
      → Der (grammar.Member builders_name false) (tokens_of place front (pieces.method n b more))
      (tree.method_tree (place (tree.result_start front b)) b.type (place (tree.result_end front b ++ codes " ")) n (tree.body_tree place (tree.body_start front n b) b.lines))
      (tokens_of place (tree.method_end front n b) more)
  method front n b more h =
      static_method (class_type (tree.result_start front b) b.type (pieces.method_opening n (pieces.body b.lines (pieces.indent (pieces.close_brace more)))) h.type)
      (body (tree.body_start front n b) b.lines more h.lines)

  methods : (front : List ℕ) (n : ℕ) (bs : List Builder) (last : List ℕ) → ArePrintable bs
      → (end : Place) × Der (grammar.Members builders_name false) (tokens_of place front (pieces.methods n bs (pieces.close_brace (pieces.comment last [])))) (tree.methods_tree place front n bs) (symbol kinds.RightBrace (codes "}") end ∷ [])
  methods front n [] last h = (place front, grammar.no_member)
  methods front n (b ∷ bs) last h =
      let rest = methods (tree.method_end front n b) (n + 1) bs last h.1 in
      (rest.0, grammar.member (method front n b (pieces.methods (n + 1) bs (pieces.close_brace (pieces.comment last []))) h.0) rest.1)

  -- the tokens of code derive its file
  pub file : (builders : List Builder) (last : List ℕ) → ArePrintable builders → Derives (tokens_of place [] (pieces.code builders last)) (tree.file_tree place builders)
  file builders last h = one_class (methods (after_pieces [] (pieces.class_head [])) 0 builders last h).1
