-- The text of builders is that of their lines.
use Rattle.std.proofs.Common.{◌≡◌, ℕ, suc, ◌<◌, ◌==◌, Bool, true, false, List, [], ◌∷◌, ◌++◌, length, refl, sym, ap, ◌∙◌, arith, append_assoc}
use Rattle.std.specs.Prelude.{ℤ, pos, negsuc, codes, decimal, flat_map, Option, Some, None, if◌then◌else◌}
use Rattle.std.specs.Fmt.{signed_decimal}
use Rattle.std.specs.List.{AllByRecursion}
use Rattle.std.proofs.Common.{get_or}
use Rattle.std.proofs.lemmas.Fmt.{decimal_digit}
use Rattle.std.proofs.lemmas.List.{append-nil}
use Rattle.std.proofs.lemmas.List.Concat.{flat_map-append}
use Rattle.kr_ast.specs.declared.node.Primitive.TheVariants as primitives
use Rattle.kr_base.specs.Cuts.{cut_text}
use Rattle.kr_classes_table.specs.Numbers.{Bits32, Bits64}
use Rattle.kr_classes_table.specs.Table.{Heading}
use Rattle.kr_classes_table.specs.Types.{JavaType, NumberType, BooleanType, VoidType, NullType, ClassType, ArrayType, SetType, ListType, InferredType, UnknownType, AppliedType}
use Rattle.kr_mean.specs.Places.{SlotPlace, This, Parameter, At}
use Rattle.kr_mean.specs.Problem.{Problem, slot_at}
use Rattle.kr_mean.specs.Program.{Program}
use Rattle.kr_mean.specs.Runs.{root_class}
use Rattle.kr_mean.specs.declared.row.Row.{Row}
use Rattle.kr_report.specs.Texts.{field_names}
use Rattle.kr_value.specs.declared.object.Class.{Class}
use Rattle.kr_value.specs.declared.object.Class.TheVariants as classes
use Rattle.kr_value.specs.declared.object.Class.TheVariants.{Object, Array}
use Rattle.kr_value.specs.declared.object.Spot.{Spot}
use Rattle.kr_value.specs.declared.object.Spot.TheVariants.{Field as FieldSpot, Length, Element}
use Rattle.kr_value.specs.declared.value.Value.{Value}
use Rattle.kr_value.specs.declared.value.Value.TheVariants.{Int, Bool as Truth, Null, Ref as Reference}
use Rattle.kr_emit_meaning.specs.Buildable.{array_elements}
use Rattle.kr_emit_meaning.specs.Builders.{heading_at, outer_text, class_text, element_text, letter_text, value_text, class_of_object, objects_in, is_long_spot, length_at, length_text, declared_text, assigned_text, created_text, creation_text, set_text, assignment_text, body_text, builder_text}
use Rattle.kr_emit_laws.specs.Syntax.{Line, Creates, CreatesArray, SetsField, SetsElement, Operand, Whole, Boolean, NullOperand, Local, TypeName, PrimitiveName, SimpleName, NestedName, named_in, class_name, element_name, operand_of, local_of, lengths_at, lengths_of, length_of, created_lines, creation_lines, set_lines, assignment_lines, lines_of, builder_of}
use Rattle.kr_emit_laws.specs.Pieces as pieces
use Rattle.kr_emit_laws.specs.Pieces.{Piece, text_of, local_name}
use Rattle.kr_emit_laws.specs.TextLaws.{HasLength, HasLengths}

-- ---- parts of lines

-- a type, and what is set, as they are written
pub words : TypeName → List ℕ
words (PrimitiveName primitives.Int) = codes "int"
words (PrimitiveName primitives.Long) = codes "long"
words (PrimitiveName primitives.Boolean) = codes "boolean"
words (PrimitiveName primitives.Void) = codes "void"
words (SimpleName text) = text
words (NestedName outer text) = outer ++ codes "." ++ text

pub type_is : (t : TypeName) (more : List Piece) → text_of (pieces.type t more) ≡ words t ++ text_of more
unfolding words
type_is (PrimitiveName primitives.Int) more = refl
type_is (PrimitiveName primitives.Long) more = refl
type_is (PrimitiveName primitives.Boolean) more = refl
type_is (PrimitiveName primitives.Void) more = refl
type_is (SimpleName text) more = refl
type_is (NestedName outer text) more = sym (append_assoc (outer ++ codes ".") text (text_of more) ∙ append_assoc outer (codes ".") (text ++ text_of more))

named_words : (headings : List Heading) (outer : Option ℕ) (name : List ℕ) → words (named_in headings outer name) ≡ outer_text headings outer ++ name
unfolding words
named_words headings None name = refl
named_words headings (Some o) name = refl

class_words : (headings : List Heading) (c : ℕ) → words (class_name headings c) ≡ class_text headings c
class_words headings c = named_words headings (heading_at headings c).outer (heading_at headings c).name

element_words : (headings : List Heading) (t : JavaType) → words (element_name headings t) ≡ element_text headings t
unfolding words
element_words headings (NumberType Bits32) = refl
element_words headings (NumberType Bits64) = refl
element_words headings BooleanType = refl
element_words headings NullType = refl
element_words headings VoidType = refl
element_words headings (ClassType c) = class_words headings c
element_words headings (ArrayType t) = refl
element_words headings (SetType t) = refl
element_words headings (ListType t) = refl
element_words headings InferredType = refl
element_words headings (UnknownType p n) = refl
element_words headings (AppliedType t u) = refl

spoken : Operand → List ℕ
spoken (Whole is_long n) = signed_decimal n ++ letter_text is_long
spoken (Boolean true) = codes "true"
spoken (Boolean false) = codes "false"
spoken NullOperand = codes "null"
spoken (Local n) = local_name n

whole_is : (is_long : Bool) (z : ℤ) (more : List Piece) → text_of (pieces.whole is_long z more) ≡ (signed_decimal z ++ letter_text is_long) ++ text_of more
whole_is true (pos n) more = refl
whole_is false (pos n) more = ap (λ (t : List ℕ). t ++ text_of more) (sym (append-nil (decimal n)))
whole_is true (negsuc n) more = refl
whole_is false (negsuc n) more = ap (λ (t : List ℕ). 45 ∷ (t ++ text_of more)) (sym (append-nil (decimal (suc n))))

operand_is : (v : Operand) (more : List Piece) → text_of (pieces.operand v more) ≡ spoken v ++ text_of more
unfolding spoken
operand_is (Whole is_long n) more = whole_is is_long n more
operand_is (Boolean true) more = refl
operand_is (Boolean false) more = refl
operand_is NullOperand more = refl
operand_is (Local n) more = refl

spoken_value : (objects : List ℕ) (is_long : Bool) (v : Value) → spoken (operand_of objects is_long v) ≡ value_text objects is_long v
unfolding spoken
spoken_value objects is_long (Int n) = refl
spoken_value objects is_long (Truth true) = refl
spoken_value objects is_long (Truth false) = refl
spoken_value objects is_long Null = refl
spoken_value objects is_long (Reference o) = refl

-- ---- lines

pub line_text : Line → List ℕ
line_text (Creates t n) = declared_text (words t) [] (local_name n) (codes "()")
line_text (CreatesArray t n length) = declared_text (words t) (codes "[]") (local_name n) (codes "[" ++ signed_decimal length ++ codes "]")
line_text (SetsField n field v) = assigned_text (local_name n) (codes "." ++ field) (spoken v)
line_text (SetsElement n index v) = assigned_text (local_name n) (codes "[" ++ decimal index ++ codes "]") (spoken v)

pub line_some : (a : Line) → 0 < length (line_text a)
unfolding line_text
line_some (Creates t n) = omega arith
line_some (CreatesArray t n z) = omega arith
line_some (SetsField n f v) = omega arith
line_some (SetsElement n i v) = omega arith

three : (a b c rest : List ℕ) → a ++ (b ++ (c ++ rest)) ≡ (a ++ b ++ c) ++ rest
three a b c rest = simp append_assoc

five : (a b c d e rest : List ℕ) → a ++ (b ++ (c ++ (d ++ (e ++ rest)))) ≡ (a ++ b ++ c ++ d ++ e) ++ rest
five a b c d e rest = simp append_assoc

six : (a b c d e f rest : List ℕ) → a ++ (b ++ (c ++ (d ++ (e ++ (f ++ rest))))) ≡ (a ++ b ++ c ++ d ++ e ++ f) ++ rest
six a b c d e f rest = simp append_assoc

nine : (a b c d e f g h i rest : List ℕ) → a ++ (b ++ (c ++ (d ++ (e ++ (f ++ (g ++ (h ++ (i ++ rest)))))))) ≡ (a ++ b ++ c ++ d ++ e ++ f ++ g ++ h ++ i) ++ rest
nine a b c d e f g h i rest = simp append_assoc

object_line : (w n rest : List ℕ) → codes "    " ++ (w ++ (codes " " ++ (n ++ (codes " = new " ++ (w ++ (codes "();\n" ++ rest)))))) ≡ declared_text w [] n (codes "()") ++ rest
object_line w n rest = nine (codes "    ") w [] (codes " ") n (codes " = new ") w (codes "()") (codes ";\n") rest

array_line : (w n z rest : List ℕ) → codes "    " ++ (w ++ (codes "[] " ++ (n ++ (codes " = new " ++ (w ++ (codes "[" ++ (z ++ (codes "];\n" ++ rest)))))))) ≡ declared_text w (codes "[]") n (codes "[" ++ z ++ codes "]") ++ rest
array_line w n z rest =
    ap (λ (x : List ℕ). codes "    " ++ (w ++ (codes "[] " ++ (n ++ (codes " = new " ++ (w ++ x)))))) (three (codes "[") z (codes "]") (codes ";\n" ++ rest))
    ∙ nine (codes "    ") w (codes "[]") (codes " ") n (codes " = new ") w (codes "[" ++ z ++ codes "]") (codes ";\n") rest

field_line : (n f v rest : List ℕ) → codes "    " ++ (n ++ (codes "." ++ (f ++ (codes " = " ++ (v ++ (codes ";\n" ++ rest)))))) ≡ assigned_text n (codes "." ++ f) v ++ rest
field_line n f v rest = six (codes "    ") n (codes "." ++ f) (codes " = ") v (codes ";\n") rest

element_line : (n i v rest : List ℕ) → codes "    " ++ (n ++ (codes "[" ++ (i ++ (codes "] = " ++ (v ++ (codes ";\n" ++ rest)))))) ≡ assigned_text n (codes "[" ++ i ++ codes "]") v ++ rest
element_line n i v rest =
    ap (λ (x : List ℕ). codes "    " ++ (n ++ x)) (three (codes "[") i (codes "]") (codes " = " ++ (v ++ (codes ";\n" ++ rest))))
    ∙ six (codes "    ") n (codes "[" ++ i ++ codes "]") (codes " = ") v (codes ";\n") rest

pub statement_is : (a : Line) (more : List Piece) → text_of (pieces.indent (pieces.indent (pieces.statement a more))) ≡ line_text a ++ text_of more
unfolding line_text
statement_is (Creates t n) more =
    let end = pieces.parentheses (pieces.semicolon more) in
    ap (λ (x : List ℕ). codes "    " ++ x) (type_is t (pieces.created n t end) ∙ ap (λ (x : List ℕ). words t ++ (codes " " ++ (local_name n ++ (codes " = new " ++ x)))) (type_is t end))
    ∙ object_line (words t) (local_name n) (text_of more)
statement_is (CreatesArray t n length) more =
    let end = pieces.right (pieces.semicolon more) in
    let size = pieces.left (pieces.whole false length end) in
    let z : text_of (pieces.whole false length end) ≡ signed_decimal length ++ text_of end = whole_is false length end ∙ ap (λ (x : List ℕ). x ++ text_of end) (append-nil (signed_decimal length)) in
    ap (λ (x : List ℕ). codes "    " ++ x)
    (type_is t (pieces.left (pieces.right (pieces.created n t size))) ∙ ap (λ (x : List ℕ). words t ++ (codes "[] " ++ (local_name n ++ (codes " = new " ++ x)))) (type_is t size ∙ ap (λ (x : List ℕ). words t ++ (codes "[" ++ x)) z))
    ∙ array_line (words t) (local_name n) (signed_decimal length) (text_of more)
statement_is (SetsField n field v) more =
    ap (λ (x : List ℕ). codes "    " ++ (local_name n ++ (codes "." ++ (field ++ (codes " = " ++ x))))) (operand_is v (pieces.semicolon more))
    ∙ field_line (local_name n) field (spoken v) (text_of more)
statement_is (SetsElement n index v) more =
    ap (λ (x : List ℕ). codes "    " ++ (local_name n ++ (codes "[" ++ (decimal index ++ (codes "] = " ++ x))))) (operand_is v (pieces.semicolon more))
    ∙ element_line (local_name n) (decimal index) (spoken v) (text_of more)

pub return_text : List ℕ
return_text = codes "    return o0;\n"

return_is : (more : List Piece) → text_of (pieces.body [] more) ≡ return_text ++ text_of more
unfolding return_text
return_is more = ap (λ (x : List ℕ). codes "    return o" ++ (x ++ (codes ";\n" ++ text_of more))) (decimal_digit 0 (omega arith))

pub lines_text : List Line → List ℕ
lines_text lines = flat_map line_text lines

pub body_is : (lines : List Line) (more : List Piece) → text_of (pieces.body lines more) ≡ lines_text lines ++ (return_text ++ text_of more)
unfolding lines_text
body_is [] more = return_is more
body_is (a ∷ lines) more =
    statement_is a (pieces.body lines more) ∙ (ap (λ (x : List ℕ). line_text a ++ x) (body_is lines more) ∙ sym (append_assoc (line_text a) (lines_text lines) (return_text ++ text_of more)))

-- ---- of a problem

module _ (problem : Problem) (structure : List (ℕ × Value)) (objects : List ℕ) where
  -- lengths
  length_by : (o : ℕ) (v : Value) (place : SlotPlace) → length_at o v place ≡ flat_map signed_decimal (lengths_at o v place)
  length_by o (Int n) (At p Length) = go (p == o)
    where
      go : (b : Bool) → (if b then signed_decimal n else []) ≡ flat_map signed_decimal (if b then n ∷ [] else [])
      go true = sym (append-nil (signed_decimal n))
      go false = refl
  length_by o (Int n) (At p (FieldSpot f)) = refl
  length_by o (Int n) (At p (Element i)) = refl
  length_by o (Int n) This = refl
  length_by o (Int n) (Parameter i) = refl
  length_by o (Truth b) place = refl
  length_by o Null place = refl
  length_by o (Reference r) place = refl

  lengths_by : (o : ℕ) (pairs : List (ℕ × Value)) → length_text problem pairs o ≡ flat_map signed_decimal (lengths_of problem pairs o)
  lengths_by o [] = refl
  lengths_by o (p ∷ pairs) =
      let here = lengths_at o p.1 (slot_at problem p.0).place in
      ap (λ (x : List ℕ). x ++ length_text problem pairs o) (length_by o p.1 (slot_at problem p.0).place)
      ∙ (ap (λ (x : List ℕ). flat_map signed_decimal here ++ x) (lengths_by o pairs) ∙ sym (flat_map-append signed_decimal here (lengths_of problem pairs o)))

  length_is : (o : ℕ) (z : ℤ) → lengths_of problem structure o ≡ z ∷ [] → length_text problem structure o ≡ signed_decimal (length_of problem structure o)
  length_is o z e =
      let one : length_of problem structure o ≡ z = ap (λ (zs : List ℤ). get_or zs 0 (pos 0)) e in
      lengths_by o structure ∙ (ap (λ (zs : List ℤ). flat_map signed_decimal zs) e ∙ (append-nil (signed_decimal z) ∙ ap signed_decimal (sym one)))

  -- creations
  created_is : (program : Program) (o n : ℕ) (class : Class) → HasLength problem structure o class
      → lines_text (created_lines program n (length_of problem structure o) class) ≡ created_text program (local_name n) (length_text problem structure o) class
  unfolding lines_text line_text
  created_is program o n (Object c) h =
      append-nil (declared_text (words (class_name program.table.headings c)) [] (local_name n) (codes "()"))
      ∙ ap (λ (w : List ℕ). declared_text w [] (local_name n) (codes "()")) (class_words program.table.headings c)
  created_is program o n (Array k) h =
      let z = length_of problem structure o in
      append-nil (declared_text (words (element_name program.table.headings (array_elements program k))) (codes "[]") (local_name n) (codes "[" ++ signed_decimal z ++ codes "]"))
      ∙ (ap (λ (w : List ℕ). declared_text w (codes "[]") (local_name n) (codes "[" ++ signed_decimal z ++ codes "]")) (element_words program.table.headings (array_elements program k))
      ∙ ap (λ (d : List ℕ). declared_text (element_text program.table.headings (array_elements program k)) (codes "[]") (local_name n) (codes "[" ++ d ++ codes "]")) (sym (length_is o h.0 h.1)))
  created_is program o n classes.Set h = refl
  created_is program o n classes.List h = refl

  creations_are : (os : List ℕ) → AllByRecursion (λ o. HasLength problem structure o (class_of_object problem o)) os
      → lines_text (flat_map (creation_lines problem structure objects) os) ≡ flat_map (creation_text problem structure objects) os
  unfolding lines_text
  creations_are [] h = refl
  creations_are (o ∷ os) h =
      flat_map-append line_text (creation_lines problem structure objects o) (flat_map (creation_lines problem structure objects) os)
      ∙ (ap (λ (x : List ℕ). x ++ lines_text (flat_map (creation_lines problem structure objects) os)) (created_is problem.program o (local_of objects o) (class_of_object problem o) h.0)
      ∙ ap (λ (x : List ℕ). creation_text problem structure objects o ++ x) (creations_are os h.1))

  -- assignments
  set_is : (o : ℕ) (class : Class) (v : Value) (spot : Spot) → lines_text (set_lines problem.program objects o class v spot) ≡ set_text problem.program objects o class v spot
  unfolding lines_text line_text
  set_is o class v Length = refl
  set_is o class v (FieldSpot f) =
      let is_long = is_long_spot problem.program class (FieldSpot f) in
      append-nil (assigned_text (local_name (local_of objects o)) (codes "." ++ get_or (field_names problem.program.table class) f []) (spoken (operand_of objects is_long v)))
      ∙ ap (λ (x : List ℕ). assigned_text (local_name (local_of objects o)) (codes "." ++ get_or (field_names problem.program.table class) f []) x) (spoken_value objects is_long v)
  set_is o class v (Element i) =
      let is_long = is_long_spot problem.program class (Element i) in
      append-nil (assigned_text (local_name (local_of objects o)) (codes "[" ++ decimal i ++ codes "]") (spoken (operand_of objects is_long v)))
      ∙ ap (λ (x : List ℕ). assigned_text (local_name (local_of objects o)) (codes "[" ++ decimal i ++ codes "]") x) (spoken_value objects is_long v)

  assignment_is : (v : Value) (place : SlotPlace) → lines_text (assignment_lines problem objects v place) ≡ assignment_text problem objects v place
  unfolding lines_text
  assignment_is v This = refl
  assignment_is v (Parameter i) = refl
  assignment_is v (At o spot) = set_is o (class_of_object problem o) v spot

  assignments_are : (pairs : List (ℕ × Value)) → lines_text (flat_map (λ (p : ℕ × Value). assignment_lines problem objects p.1 (slot_at problem p.0).place) pairs)
      ≡ flat_map (λ (p : ℕ × Value). assignment_text problem objects p.1 (slot_at problem p.0).place) pairs
  unfolding lines_text
  assignments_are [] = refl
  assignments_are (p ∷ pairs) =
      let place = (slot_at problem p.0).place in
      let rest = flat_map (λ (q : ℕ × Value). assignment_lines problem objects q.1 (slot_at problem q.0).place) pairs in
      flat_map-append line_text (assignment_lines problem objects p.1 place) rest
      ∙ (ap (λ (x : List ℕ). x ++ lines_text rest) (assignment_is p.1 place) ∙ ap (λ (x : List ℕ). assignment_text problem objects p.1 place ++ x) (assignments_are pairs))

  lines_are : AllByRecursion (λ o. HasLength problem structure o (class_of_object problem o)) objects → lines_text (lines_of problem structure objects) ≡ body_text problem structure objects
  unfolding lines_text
  lines_are h =
      flat_map-append line_text (flat_map (creation_lines problem structure objects) objects) (flat_map (λ (p : ℕ × Value). assignment_lines problem objects p.1 (slot_at problem p.0).place) structure)
      ∙ (ap (λ (x : List ℕ). x ++ lines_text (flat_map (λ (p : ℕ × Value). assignment_lines problem objects p.1 (slot_at problem p.0).place) structure)) (creations_are objects h)
      ∙ ap (λ (x : List ℕ). flat_map (creation_text problem structure objects) objects ++ x) (assignments_are structure))

-- ---- the builder of a row

around : (key type number body rest : List ℕ)
    → codes "  // " ++ (key ++ (codes "\n  static " ++ (type ++ (codes " b" ++ (number ++ (codes "() {\n" ++ (body ++ (codes "    return o0;\n" ++ (codes "  }\n" ++ rest)))))))))
    ≡ ((codes "  // " ++ key ++ codes "\n  static " ++ type ++ codes " b") ++ number ++ (codes "() {\n" ++ body ++ codes "    return o0;\n  }\n")) ++ rest
around key type number body rest =
    let head = codes "  // " ++ key ++ codes "\n  static " ++ type ++ codes " b" in
    let tail = codes "() {\n" ++ body ++ codes "    return o0;\n  }\n" in
    ap (λ (x : List ℕ). codes "  // " ++ (key ++ (codes "\n  static " ++ (type ++ (codes " b" ++ (number ++ x)))))) (three (codes "() {\n") body (codes "    return o0;\n  }\n") rest)
    ∙ (five (codes "  // ") key (codes "\n  static ") type (codes " b") (number ++ (tail ++ rest)) ∙ three head number tail rest)

pub method_is : (problem : Problem) (row : Row) (n : ℕ) (more : List Piece) → HasLengths problem row.structure → text_of (pieces.method n (builder_of problem row) more) ≡ builder_text problem row n ++ text_of more
unfolding builder_text return_text
method_is problem row n more h =
    let objects = objects_in row.structure in
    let headings = problem.program.table.headings in
    let end = pieces.indent (pieces.close_brace more) in
    let lines = lines_of problem row.structure objects in
    let inner : text_of (pieces.body lines end) ≡ body_text problem row.structure objects ++ (codes "    return o0;\n" ++ (codes "  }\n" ++ text_of more)) =
    body_is lines end ∙ ap (λ (x : List ℕ). x ++ (codes "    return o0;\n" ++ (codes "  }\n" ++ text_of more))) (lines_are problem row.structure objects h) in
    let opening = pieces.method_opening n (pieces.body lines end) in
    let typed : text_of (pieces.type (class_name headings (root_class problem)) opening) ≡ class_text headings (root_class problem) ++ text_of opening =
    type_is (class_name headings (root_class problem)) opening ∙ ap (λ (x : List ℕ). x ++ text_of opening) (class_words headings (root_class problem)) in
    ap (λ (x : List ℕ). codes "  // " ++ (cut_text row.key ++ (codes "\n  static " ++ x))) (typed ∙ ap (λ (x : List ℕ). class_text headings (root_class problem) ++ (codes " b" ++ (decimal n ++ (codes "() {\n" ++ x)))) inner)
    ∙ around (cut_text row.key) (class_text headings (root_class problem)) (decimal n) (body_text problem row.structure objects) (text_of more)

pub text_is : (problem : Problem) (row : Row) (n : ℕ) → HasLengths problem row.structure → builder_text problem row n ≡ text_of (pieces.method n (builder_of problem row) [])
text_is problem row n h = sym (method_is problem row n [] h ∙ append-nil (builder_text problem row n))
