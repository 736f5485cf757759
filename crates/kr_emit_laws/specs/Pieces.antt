-- Between crates: the spelling of builders: gaps and tokens.
use Rattle.std.specs.Prelude.{ℕ, suc, ◌+◌, Bool, true, false, List, [], ◌∷◌, ◌++◌, ℤ, pos, negsuc, codes, decimal}
use Rattle.kr_ast.specs.declared.node.Primitive.{Primitive}
use Rattle.kr_ast.specs.declared.node.Primitive.TheVariants as primitives
use Rattle.kr_base.specs.declared.place.Place.{Place}
use Rattle.kr_lex.specs.Lexemes.{Lexeme}
use Rattle.kr_lex.specs.declared.kind.Kind.{Kind}
use Rattle.kr_lex.specs.declared.kind.Kind.TheVariants as kinds
use Rattle.kr_emit_meaning.specs.Buildable.{builders_name}
use Rattle.kr_emit_laws.specs.Syntax.{Builder, Line, Creates, CreatesArray, SetsField, SetsElement, Operand, Whole, Boolean, NullOperand, Local, TypeName, PrimitiveName, SimpleName, NestedName}

pub data Piece : Type 0 where
  Gap : List ℕ → Piece
  Token : Kind → List ℕ → Piece

abbrev pub text_of : List Piece → List ℕ
text_of [] = []
text_of (Gap text ∷ pieces) = text ++ text_of pieces
text_of (Token kind text ∷ pieces) = text ++ text_of pieces

-- the text up to the pieces' end, from the text before them
abbrev pub after_pieces : List ℕ → List Piece → List ℕ
after_pieces front [] = front
after_pieces front (Gap text ∷ pieces) = after_pieces (front ++ text) pieces
after_pieces front (Token kind text ∷ pieces) = after_pieces (front ++ text) pieces

-- the tokens, with their places by the text before them
abbrev pub tokens_of : (List ℕ → Place) → List ℕ → List Piece → List Lexeme
tokens_of at front [] = []
tokens_of at front (Gap text ∷ pieces) = tokens_of at (front ++ text) pieces
tokens_of at front (Token kind text ∷ pieces) = record { kind = kind; text = text; place = at front } ∷ tokens_of at (front ++ text) pieces

-- ---- pieces, before others

abbrev pub space : List Piece → List Piece
space more = Gap (codes " ") ∷ more

abbrev pub line_end : List Piece → List Piece
line_end more = Gap (codes "\n") ∷ more

abbrev pub indent : List Piece → List Piece
indent more = space (space more)

abbrev pub name : List ℕ → List Piece → List Piece
name text more = Token kinds.Identifier text ∷ more

abbrev pub dot : List Piece → List Piece
dot more = Token kinds.Dot (codes ".") ∷ more

abbrev pub left : List Piece → List Piece
left more = Token kinds.LeftBracket (codes "[") ∷ more

abbrev pub right : List Piece → List Piece
right more = Token kinds.RightBracket (codes "]") ∷ more

-- `()`
abbrev pub parentheses : List Piece → List Piece
parentheses more = Token kinds.LeftParenthesis (codes "(") ∷ Token kinds.RightParenthesis (codes ")") ∷ more

-- ` = `
abbrev pub equals : List Piece → List Piece
equals more = space (Token kinds.Equal (codes "=") ∷ space more)

-- `;`, and the line ends
abbrev pub semicolon : List Piece → List Piece
semicolon more = Token kinds.Semicolon (codes ";") ∷ line_end more

-- ` {`, and the line ends
abbrev pub open_brace : List Piece → List Piece
open_brace more = space (Token kinds.LeftBrace (codes "{") ∷ line_end more)

-- `}`, and the line ends
abbrev pub close_brace : List Piece → List Piece
close_brace more = Token kinds.RightBrace (codes "}") ∷ line_end more

-- a comment up to the line's end
abbrev pub comment : List ℕ → List Piece → List Piece
comment text more = Gap (codes "// " ++ text) ∷ line_end more

abbrev pub new : List Piece → List Piece
new more = Token kinds.New (codes "new") ∷ space more

-- ---- parts of lines

-- `oN`
abbrev pub local_name : ℕ → List ℕ
local_name n = codes "o" ++ decimal n

abbrev pub primitive : Primitive → List Piece → List Piece
primitive primitives.Int more = Token kinds.Int (codes "int") ∷ more
primitive primitives.Long more = Token kinds.Long (codes "long") ∷ more
primitive primitives.Boolean more = Token kinds.Boolean (codes "boolean") ∷ more
primitive primitives.Void more = Token kinds.Void (codes "void") ∷ more

abbrev pub type : TypeName → List Piece → List Piece
type (PrimitiveName k) more = primitive k more
type (SimpleName text) more = name text more
type (NestedName outer text) more = name outer (dot (name text more))

-- of a `long` with its letter
abbrev pub number : Bool → ℕ → List Piece → List Piece
number true n more = Token kinds.LongNumber (decimal n ++ codes "L") ∷ more
number false n more = Token kinds.Number (decimal n) ∷ more

abbrev pub whole : Bool → ℤ → List Piece → List Piece
whole is_long (pos n) more = number is_long n more
whole is_long (negsuc n) more = Token kinds.Minus (codes "-") ∷ number is_long (suc n) more

abbrev pub truth : Bool → List Piece → List Piece
truth true more = Token kinds.True (codes "true") ∷ more
truth false more = Token kinds.False (codes "false") ∷ more

abbrev pub operand : Operand → List Piece → List Piece
operand (Whole is_long n) more = whole is_long n more
operand (Boolean b) more = truth b more
operand NullOperand more = Token kinds.Null (codes "null") ∷ more
operand (Local n) more = name (local_name n) more

-- ---- lines

-- ` oN = new T`
abbrev pub created : ℕ → TypeName → List Piece → List Piece
created n t more = space (name (local_name n) (equals (new (type t more))))

abbrev pub statement : Line → List Piece → List Piece
statement (Creates t n) more = type t (created n t (parentheses (semicolon more)))
statement (CreatesArray t n length) more = type t (left (right (created n t (left (whole false length (right (semicolon more)))))))
statement (SetsField n field v) more = name (local_name n) (dot (name field (equals (operand v (semicolon more)))))
statement (SetsElement n index v) more = name (local_name n) (left (number false index (right (equals (operand v (semicolon more))))))

-- the lines of a body, and `return o0;`
abbrev pub body : List Line → List Piece → List Piece
body [] more = indent (indent (Token kinds.Return (codes "return") ∷ space (name (local_name 0) (semicolon more))))
body (line ∷ lines) more = indent (indent (statement line (body lines more)))

-- ---- methods and the class

-- a line with the key, and `static T`
abbrev pub method_head : Builder → List Piece → List Piece
method_head b more = indent (comment b.key (indent (Token kinds.Static (codes "static") ∷ space (type b.type more))))

-- `bN`
abbrev pub method_name : ℕ → List ℕ
method_name n = codes "b" ++ decimal n

-- ` bN() {`
abbrev pub method_opening : ℕ → List Piece → List Piece
method_opening n more = space (name (method_name n) (parentheses (open_brace more)))

abbrev pub method : ℕ → Builder → List Piece → List Piece
method n b more = method_head b (method_opening n (body b.lines (indent (close_brace more))))

-- numbered from a number on
abbrev pub methods : ℕ → List Builder → List Piece → List Piece
methods n [] more = more
methods n (b ∷ bs) more = method n b (methods (n + 1) bs more)

-- `class KoratBuild {`
abbrev pub class_head : List Piece → List Piece
class_head more = Token kinds.Class (codes "class") ∷ space (name builders_name (open_brace more))

-- the class, and a comment
abbrev pub code : List Builder → List ℕ → List Piece
code builders last = class_head (methods 0 builders (close_brace (comment last [])))
