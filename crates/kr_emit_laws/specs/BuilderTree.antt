-- Between crates: the tree of the class of builders. Places are given by the text before a token; what holds of the tree beside
-- the sources holds whatever they are.
use Rattle.std.specs.Prelude.{ℕ, suc, ◌+◌, Bool, true, false, List, [], ◌∷◌, ◌++◌, ℤ, pos, negsuc, codes}
use Rattle.kr_ast.specs.Tree as trees
use Rattle.kr_ast.specs.Tree.{Tree, Nil, Cons}
use Rattle.kr_ast.specs.declared.node.UnaryOperator.TheVariants.{Minus}
use Rattle.kr_base.specs.declared.place.Place.{Place}
use Rattle.kr_mean.specs.Problem.{Problem}
use Rattle.kr_mean.specs.declared.row.Row.{Row}
use Rattle.kr_emit_meaning.specs.Buildable.{builders_name}
use Rattle.kr_emit_laws.specs.Pieces as pieces
use Rattle.kr_emit_laws.specs.Pieces.{after_pieces, local_name, method_name}
use Rattle.kr_emit_laws.specs.Syntax.{Builder, Line, Creates, CreatesArray, SetsField, SetsElement, Operand, Whole, Boolean, NullOperand, Local, TypeName, PrimitiveName, SimpleName, NestedName, builders_of}

-- ---- parts of lines

abbrev pub type_tree : Place → TypeName → Tree
type_tree p (PrimitiveName k) = trees.PrimitiveType p k
type_tree p (SimpleName text) = trees.NamedType p text
type_tree p (NestedName outer text) = trees.QualifiedType p outer text

abbrev pub number_tree : Place → Bool → ℕ → Tree
number_tree p true n = trees.LongNumber p n
number_tree p false n = trees.Number p n

abbrev pub whole_tree : (List ℕ → Place) → List ℕ → Bool → ℤ → Tree
whole_tree at front is_long (pos n) = number_tree (at front) is_long n
whole_tree at front is_long (negsuc n) = trees.Unary (at front) Minus (number_tree (at (front ++ codes "-")) is_long (suc n))

abbrev pub operand_tree : (List ℕ → Place) → List ℕ → Operand → Tree
operand_tree at front (Whole is_long n) = whole_tree at front is_long n
operand_tree at front (Boolean b) = trees.Truth (at front) b
operand_tree at front NullOperand = trees.Null (at front)
operand_tree at front (Local n) = trees.Variable (at front) (local_name n)

-- ---- the text before a token of a line, from the text before the line

-- after a type
abbrev pub type_end : List ℕ → TypeName → List ℕ
type_end front t = after_pieces front (pieces.type t [])

-- before `new` and the type after it, from the text before ` oN = new T`
abbrev pub new_start : List ℕ → ℕ → List ℕ
new_start front n = after_pieces front (pieces.space (pieces.name (local_name n) (pieces.equals [])))

abbrev pub created_start : List ℕ → ℕ → List ℕ
created_start front n = after_pieces (new_start front n) (pieces.new [])

abbrev pub created_end : List ℕ → ℕ → TypeName → List ℕ
created_end front n t = type_end (created_start front n) t

-- after `T[]`
abbrev pub array_end : List ℕ → TypeName → List ℕ
array_end front t = after_pieces (type_end front t) (pieces.left (pieces.right []))

-- before an array's length
abbrev pub length_start : List ℕ → ℕ → TypeName → List ℕ
length_start front n t = after_pieces (created_end (array_end front t) n t) (pieces.left [])

abbrev pub length_end : List ℕ → ℤ → List ℕ
length_end front length = after_pieces front (pieces.whole false length [])

-- before what a field or an element is set to
abbrev pub field_start : List ℕ → ℕ → List ℕ → List ℕ
field_start front n field = after_pieces front (pieces.name (local_name n) (pieces.dot (pieces.name field (pieces.equals []))))

abbrev pub element_start : List ℕ → ℕ → ℕ → List ℕ
element_start front n index = after_pieces front (pieces.name (local_name n) (pieces.left (pieces.number false index (pieces.right (pieces.equals [])))))

abbrev pub operand_end : List ℕ → Operand → List ℕ
operand_end front v = after_pieces front (pieces.operand v [])

-- after a line
abbrev pub statement_end : List ℕ → Line → List ℕ
statement_end front (Creates t n) = after_pieces (created_end (type_end front t) n t) (pieces.parentheses (pieces.semicolon []))
statement_end front (CreatesArray t n length) = after_pieces (length_end (length_start front n t) length) (pieces.right (pieces.semicolon []))
statement_end front (SetsField n field v) = after_pieces (operand_end (field_start front n field) v) (pieces.semicolon [])
statement_end front (SetsElement n index v) = after_pieces (operand_end (element_start front n index) v) (pieces.semicolon [])

-- ---- lines

-- a local of a type at a place, with its name at another
abbrev pub local_tree : Place → Tree → Place → ℕ → Tree → Tree
local_tree p type q n initial = trees.Local p type (Cons (trees.Declarator q (local_name n) initial) Nil)

abbrev pub set_tree : Place → Tree → Tree → Tree
set_tree p target v = trees.ExpressionStatement p (trees.Assignment p target v)

abbrev pub statement_tree : (List ℕ → Place) → List ℕ → Line → Tree
statement_tree at front (Creates t n) =
    local_tree (at front) (type_tree (at front) t) (at (type_end front t ++ codes " ")) n
    (trees.ObjectCreation (at (new_start (type_end front t) n)) (type_tree (at (created_start (type_end front t) n)) t) Nil)
statement_tree at front (CreatesArray t n length) =
    local_tree (at front) (trees.ArrayType (at front) (type_tree (at front) t)) (at (array_end front t ++ codes " ")) n
    (trees.ArrayCreation (at (new_start (array_end front t) n)) (type_tree (at (created_start (array_end front t) n)) t) (whole_tree at (length_start front n t) false length))
statement_tree at front (SetsField n field v) =
    set_tree (at front) (trees.FieldAccess (at front) (trees.Variable (at front) (local_name n)) field) (operand_tree at (field_start front n field) v)
statement_tree at front (SetsElement n index v) =
    set_tree (at front) (trees.ArrayAccess (at front) (trees.Variable (at front) (local_name n)) (trees.Number (at (front ++ local_name n ++ codes "[")) index)) (operand_tree at (element_start front n index) v)

-- `return o0;`
abbrev pub return_tree : Place → Place → Tree
return_tree p q = trees.Return p (trees.Variable q (local_name 0))

-- the text before a line of a body
abbrev pub line_start : List ℕ → List ℕ
line_start front = after_pieces front (pieces.indent (pieces.indent []))

-- the lines of a body, and its return
abbrev pub body_tree : (List ℕ → Place) → List ℕ → List Line → Tree
body_tree at front [] = Cons (return_tree (at (line_start front)) (at (line_start front ++ codes "return" ++ codes " "))) Nil
body_tree at front (line ∷ lines) = Cons (statement_tree at (line_start front) line) (body_tree at (statement_end (line_start front) line) lines)

abbrev pub body_end : List ℕ → List Line → List ℕ
body_end front [] = after_pieces front (pieces.body [] [])
body_end front (line ∷ lines) = body_end (statement_end (line_start front) line) lines

-- ---- methods and the class

-- before a method's type
abbrev pub result_start : List ℕ → Builder → List ℕ
result_start front b = front ++ codes " " ++ codes " " ++ (codes "// " ++ b.key) ++ codes "\n" ++ codes " " ++ codes " " ++ codes "static" ++ codes " "

abbrev pub result_end : List ℕ → Builder → List ℕ
result_end front b = type_end (result_start front b) b.type

abbrev pub body_start : List ℕ → ℕ → Builder → List ℕ
body_start front n b = after_pieces (result_end front b) (pieces.method_opening n [])

abbrev pub method_end : List ℕ → ℕ → Builder → List ℕ
method_end front n b = after_pieces (body_end (body_start front n b) b.lines) (pieces.indent (pieces.close_brace []))

-- a static method without parameters and contracts, of a type at a place, with its name at another
abbrev pub method_tree : Place → TypeName → Place → ℕ → Tree → Tree
method_tree p type q n body = trees.Method q true (method_name n) (trees.Signature q (type_tree p type) Nil Nil) body

abbrev pub methods_tree : (List ℕ → Place) → List ℕ → ℕ → List Builder → Tree
methods_tree at front n [] = Nil
methods_tree at front n (b ∷ bs) =
    Cons (method_tree (at (result_start front b)) b.type (at (result_end front b ++ codes " ")) n (body_tree at (body_start front n b) b.lines))
    (methods_tree at (method_end front n b) (n + 1) bs)

-- the class of the builders
abbrev pub class_tree : (List ℕ → Place) → List Builder → Tree
class_tree at builders = trees.Class (at (codes "class" ++ codes " ")) builders_name Nil (methods_tree at (after_pieces [] (pieces.class_head [])) 0 builders)

-- its file
abbrev pub file_tree : (List ℕ → Place) → List Builder → Tree
file_tree at builders = Cons (class_tree at builders) Nil

-- that of a problem's rows
abbrev pub builder_tree : (List ℕ → Place) → Problem → List Row → Tree
builder_tree at problem rows = file_tree at (builders_of problem rows)
