-- The pieces of builders are gaps and tokens where they are.
use Rattle.std.proofs.Common.{◌≡◌, ℕ, suc, ◌+◌, ◌^◌, ◌<◌, ◌≤◌, Bool, true, false, List, [], ◌∷◌, ◌++◌, length, slice_index, refl, sym, ap, subst, ◌∙◌, arith, append_assoc}
use Rattle.std.specs.Prelude.{ℤ, pos, negsuc, pred, codes, decimal}
use Rattle.std.specs.Char.{is_ascii_digit}
use Rattle.std.specs.List.{AllByRecursion}
use Rattle.std.proofs.lemmas.Str.{IsUtf8-append, IsUtf8-from_ascii}
use Rattle.kr_ast.specs.declared.node.Primitive.TheVariants as primitives
use Rattle.kr_lex.specs.declared.kind.Kind.TheVariants as kinds
use Rattle.kr_lex.specs.Characters.{EndsWord}
use Rattle.kr_lex.specs.Gaps.{white, line}
use Rattle.kr_lex.specs.Spelling.{spelling}
use Rattle.kr_lex.specs.Table.{beginning_with}
use Rattle.kr_lex.proofs.Shapes.{ascii_at}
use Rattle.kr_emit_meaning.specs.Buildable.{builders_name}
use Rattle.kr_emit_laws.specs.Syntax.{Builder, Line, Creates, CreatesArray, SetsField, SetsElement, Operand, Whole, Boolean, NullOperand, Local, TypeName, PrimitiveName, SimpleName, NestedName}
use Rattle.kr_emit_laws.specs.Pieces as pieces
use Rattle.kr_emit_laws.specs.Pieces.{Piece, text_of, local_name, method_name}
use Rattle.kr_emit_laws.specs.Printable.{IsIdentifier, IsClassName, IsElementName, IsNumbered, IsWritten, IsWrittenOperand, IsPrintableLine, IsPrintable, ArePrintable, IsComment, limit_of}
use Rattle.kr_emit_laws.proofs.Tokens.{ends, keyword_here, identifier_here, number_here, long_here, only_here, equal_here, minus_before, number_digit, local_identifier, method_identifier, class_identifier}
use Rattle.kr_emit_laws.proofs.Placed.{IsPlaced, nothing, gap, token}

-- ---- gaps

space : {n : ℕ} {more : List Piece} → IsPlaced n more → IsPlaced n (pieces.space more)
space h = gap (white 32 refl refl) (IsUtf8-from_ascii (32 ∷ []) (ascii_at (32 ∷ []) refl)) h

line_end : {n : ℕ} {more : List Piece} → IsPlaced n more → IsPlaced n (pieces.line_end more)
line_end h = gap (white 10 refl refl) (IsUtf8-from_ascii (10 ∷ []) (ascii_at (10 ∷ []) refl)) h

indent : {n : ℕ} {more : List Piece} → IsPlaced n more → IsPlaced n (pieces.indent more)
indent h = space (space h)

comment : {n : ℕ} {more : List Piece} (text : List ℕ) → IsComment text → IsPlaced n more → IsPlaced n (pieces.comment text more)
comment text c h =
    gap (line (record { body = 32 ∷ text; spelled = refl; no_contract = λ e. omega (arith, e); in_line = (refl, c.in_line); through = refl }))
    (IsUtf8-append (codes "// ") text (IsUtf8-from_ascii (codes "// ") (ascii_at (codes "// ") refl)) c.utf8) (line_end h)

-- ---- where words end

ends_space : (rest : List ℕ) → EndsWord (32 ∷ rest)
ends_space rest = ends 32 rest (omega arith) refl

ends_dot : (rest : List ℕ) → EndsWord (46 ∷ rest)
ends_dot rest = ends 46 rest (omega arith) refl

ends_left : (rest : List ℕ) → EndsWord (91 ∷ rest)
ends_left rest = ends 91 rest (omega arith) refl

ends_right : (rest : List ℕ) → EndsWord (93 ∷ rest)
ends_right rest = ends 93 rest (omega arith) refl

ends_parenthesis : (rest : List ℕ) → EndsWord (40 ∷ rest)
ends_parenthesis rest = ends 40 rest (omega arith) refl

ends_semicolon : (rest : List ℕ) → EndsWord (59 ∷ rest)
ends_semicolon rest = ends 59 rest (omega arith) refl

-- ---- tokens

name : {n : ℕ} {more : List Piece} (text : List ℕ) → n < 64 → IsIdentifier text → EndsWord (text_of more) → IsPlaced n more → IsPlaced n (pieces.name text more)
name text l i w h = token l (identifier_here text _ i w) h

dot : {n : ℕ} {more : List Piece} → n < 64 → IsPlaced n more → IsPlaced n (pieces.dot more)
unfolding spelling beginning_with
dot l h = token l (only_here kinds.Dot 46 _ refl refl refl (λ e. omega (arith, e))) h

left : {more : List Piece} → IsPlaced 3 more → IsPlaced 2 (pieces.left more)
unfolding spelling beginning_with
left h = token (omega arith) (only_here kinds.LeftBracket 91 _ refl refl refl (λ e. omega (arith, e))) h

right : {more : List Piece} → IsPlaced 2 more → IsPlaced 3 (pieces.right more)
unfolding spelling beginning_with
right h = token (omega arith) (only_here kinds.RightBracket 93 _ refl refl refl (λ e. omega (arith, e))) h

back : (n : ℕ) → n ≡ pred (n + 1)
back n = let e : n + 1 ≡ suc n = omega arith in sym (ap pred e)

parentheses : {more : List Piece} (n : ℕ) → n + 1 < 64 → IsPlaced n more → IsPlaced n (pieces.parentheses more)
unfolding spelling beginning_with
parentheses {more} n l h =
    token (omega (arith, l)) (only_here kinds.LeftParenthesis 40 _ refl refl refl (λ e. omega (arith, e)))
    (token l (only_here kinds.RightParenthesis 41 _ refl refl refl (λ e. omega (arith, e))) (subst (λ (k : ℕ). IsPlaced k more) (back n) h))

semicolon : {more : List Piece} → IsPlaced 2 more → IsPlaced 2 (pieces.semicolon more)
unfolding spelling beginning_with
semicolon h = token (omega arith) (only_here kinds.Semicolon 59 _ refl refl refl (λ e. omega (arith, e))) (line_end h)

equals : {more : List Piece} → IsPlaced 2 more → IsPlaced 2 (pieces.equals more)
equals h = space (token (omega arith) (equal_here _) (space h))

open_brace : {more : List Piece} (n : ℕ) → n < 64 → IsPlaced (n + 1) more → IsPlaced n (pieces.open_brace more)
unfolding spelling beginning_with
open_brace n l h = space (token l (only_here kinds.LeftBrace 123 _ refl refl refl (λ e. omega (arith, e))) (line_end h))

close_brace : {more : List Piece} (n : ℕ) → n < 64 → IsPlaced (pred n) more → IsPlaced n (pieces.close_brace more)
unfolding spelling beginning_with
close_brace n l h = token l (only_here kinds.RightBrace 125 _ refl refl refl (λ e. omega (arith, e))) (line_end h)

new : {more : List Piece} → IsPlaced 2 more → IsPlaced 2 (pieces.new more)
unfolding spelling
new h = token (omega arith) (keyword_here kinds.New (codes "new") _ refl refl (omega arith) refl (ends_space _)) (space h)

-- ---- parts of lines

class_type : {n : ℕ} {more : List Piece} (t : TypeName) → n < 64 → IsClassName t → EndsWord (text_of more) → IsPlaced n more → IsPlaced n (pieces.type t more)
class_type (PrimitiveName k) l i w h = absurd i
class_type (SimpleName text) l i w h = name text l i w h
class_type (NestedName outer text) l i w h = name outer l i.0 (ends_dot _) (dot l (name text l i.1 w h))

element_type : {more : List Piece} (t : TypeName) → IsElementName t → EndsWord (text_of more) → IsPlaced 2 more → IsPlaced 2 (pieces.type t more)
unfolding spelling
element_type (PrimitiveName primitives.Int) i w h = token (omega arith) (keyword_here kinds.Int (codes "int") _ refl refl (omega arith) refl w) h
element_type (PrimitiveName primitives.Long) i w h = token (omega arith) (keyword_here kinds.Long (codes "long") _ refl refl (omega arith) refl w) h
element_type (PrimitiveName primitives.Boolean) i w h = token (omega arith) (keyword_here kinds.Boolean (codes "boolean") _ refl refl (omega arith) refl w) h
element_type (PrimitiveName primitives.Void) i w h = absurd i
element_type (SimpleName text) i w h = class_type (SimpleName text) (omega arith) i w h
element_type (NestedName outer text) i w h = class_type (NestedName outer text) (omega arith) i w h

number : {n : ℕ} {more : List Piece} (is_long : Bool) (m : ℕ) → n < 64 → m ≤ limit_of is_long → EndsWord (text_of more) → IsPlaced n more → IsPlaced n (pieces.number is_long m more)
number true m l i w h = token l (long_here m _ i w) h
number false m l i w h = token l (number_here m _ i w) h

limit_small : (is_long : Bool) (m : ℕ) → m ≤ limit_of is_long → m < 10 ^ 64
limit_small true m h = omega (arith, h)
limit_small false m h = omega (arith, h)

first_digit : (is_long : Bool) (m : ℕ) (more : List Piece) → m < 10 ^ 64 → is_ascii_digit (slice_index (text_of (pieces.number is_long m more)) 0) ≡ true
first_digit true m more h = ap (λ (t : List ℕ). is_ascii_digit (slice_index t 0)) (append_assoc (decimal m) (codes "L") (text_of more)) ∙ number_digit m (codes "L" ++ text_of more) h
first_digit false m more h = number_digit m (text_of more) h

whole : {n : ℕ} {more : List Piece} (is_long : Bool) (m : ℤ) → n < 64 → IsWritten is_long m → EndsWord (text_of more) → IsPlaced n more → IsPlaced n (pieces.whole is_long m more)
whole is_long (pos m) l i w h = number is_long m l i w h
whole {more = more} is_long (negsuc m) l i w h = token l (minus_before (text_of (pieces.number is_long (suc m) more)) (first_digit is_long (suc m) more (limit_small is_long (suc m) i))) (number is_long (suc m) l i w h)

operand : {more : List Piece} (v : Operand) → IsWrittenOperand v → EndsWord (text_of more) → IsPlaced 2 more → IsPlaced 2 (pieces.operand v more)
unfolding spelling
operand (Whole is_long m) i w h = whole is_long m (omega arith) i w h
operand (Boolean true) i w h = token (omega arith) (keyword_here kinds.True (codes "true") _ refl refl (omega arith) refl w) h
operand (Boolean false) i w h = token (omega arith) (keyword_here kinds.False (codes "false") _ refl refl (omega arith) refl w) h
operand NullOperand i w h = token (omega arith) (keyword_here kinds.Null (codes "null") _ refl refl (omega arith) refl w) h
operand (Local n) i w h = name (local_name n) (omega arith) (local_identifier n i) w h

-- ---- lines

created : (more : List Piece) (n : ℕ) (t : TypeName) → IsNumbered n → IsPlaced 2 (pieces.type t more) → IsPlaced 2 (pieces.created n t more)
created more n t i h = space (name (local_name n) (omega arith) (local_identifier n i) (ends_space _) (equals (new h)))

statement : {more : List Piece} (a : Line) → IsPrintableLine a → IsPlaced 2 more → IsPlaced 2 (pieces.statement a more)
statement {more} (Creates t n) i h =
    class_type t (omega arith) i.0 (ends_space _) (created (pieces.parentheses (pieces.semicolon more)) n t i.1 (class_type t (omega arith) i.0 (ends_parenthesis _) (parentheses 2 (omega arith) (semicolon h))))
statement {more} (CreatesArray t n length) i h =
    element_type t i.0 (ends_left _)
    (left (right (created (pieces.left (pieces.whole false length (pieces.right (pieces.semicolon more)))) n t i.1
    (element_type t i.0 (ends_left _) (left (whole false length (omega arith) i.2 (ends_right _) (right (semicolon h))))))))
statement (SetsField n field v) i h =
    name (local_name n) (omega arith) (local_identifier n i.0) (ends_dot _) (dot (omega arith) (name field (omega arith) i.1 (ends_space _) (equals (operand v i.2 (ends_semicolon _) (semicolon h)))))
statement (SetsElement n index v) i h =
    name (local_name n) (omega arith) (local_identifier n i.0) (ends_left _)
    (left (number false index (omega arith) i.1 (ends_right _) (right (equals (operand v i.2 (ends_semicolon _) (semicolon h))))))

body : {more : List Piece} (lines : List Line) → AllByRecursion IsPrintableLine lines → IsPlaced 2 more → IsPlaced 2 (pieces.body lines more)
unfolding spelling
body [] i h =
    indent (indent (token (omega arith) (keyword_here kinds.Return (codes "return") _ refl refl (omega arith) refl (ends_space _))
    (space (name (local_name 0) (omega arith) (local_identifier 0 (omega arith)) (ends_semicolon _) (semicolon h)))))
body (a ∷ lines) i h = indent (indent (statement a i.0 (body lines i.1 h)))

-- ---- methods and the class

method : {more : List Piece} (n : ℕ) (b : Builder) → IsNumbered n → IsPrintable b → IsPlaced 1 more → IsPlaced 1 (pieces.method n b more)
unfolding spelling
method n b l i h =
    indent (comment b.key i.key (indent (token (omega arith) (keyword_here kinds.Static (codes "static") _ refl refl (omega arith) refl (ends_space _))
    (space (class_type b.type (omega arith) i.type (ends_space _)
    (space (name (method_name n) (omega arith) (method_identifier n l) (ends_parenthesis _)
    (parentheses 1 (omega arith) (open_brace 1 (omega arith) (body b.lines i.lines (indent (close_brace 2 (omega arith) h))))))))))))

methods : {more : List Piece} (n : ℕ) (bs : List Builder) → IsNumbered (n + length bs) → ArePrintable bs → IsPlaced 1 more → IsPlaced 1 (pieces.methods n bs more)
methods n [] l i h = h
methods n (b ∷ bs) l i h = method n b (omega (arith, l)) i.0 (methods (n + 1) bs (omega (arith, l)) i.1 h)

pub code : (builders : List Builder) (last : List ℕ) → IsNumbered (length builders) → ArePrintable builders → IsComment last → IsPlaced 0 (pieces.code builders last)
unfolding spelling
code builders last l i c =
    token (omega arith) (keyword_here kinds.Class (codes "class") _ refl refl (omega arith) refl (ends_space _))
    (space (name builders_name (omega arith) class_identifier (ends_space _)
    (open_brace 0 (omega arith) (methods 0 builders (omega (arith, l)) i (close_brace 1 (omega arith) (comment last c nothing))))))
