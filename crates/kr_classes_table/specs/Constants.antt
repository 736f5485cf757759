-- To be believed: the values of constants (Java Language Specification 15.28), evaluated in file and source order.
use Rattle.std.specs.Prelude.{ℕ, Bool, true, false, ◌&&◌, List, [], ◌∷◌, ◌++◌, flat_map, fold, nat_eq, pos, if◌then◌else◌, Option, Some, None, option_and_then, option_map, option_to_list, is_some, is_none, unwrap_or, Ok, Err}
use Rattle.kr_base.specs.declared.place.Place.{Place}
use Rattle.kr_ast.specs.declared.node.UnaryOperator.{UnaryOperator}
use Rattle.kr_ast.specs.declared.node.BinaryOperator.{BinaryOperator}
use Rattle.kr_ast.specs.declared.node.BinaryOperator.TheVariants.{And, Or}
use Rattle.kr_ast.specs.declared.node.Primitive.TheVariants.{Int as IntWord, Long as LongWord}
use Rattle.kr_ast.specs.Tree as trees
use Rattle.kr_ast.specs.Tree.{Tree}
use Rattle.kr_value.specs.declared.value.Value.{Value}
use Rattle.kr_value.specs.declared.value.Value.TheVariants.{Int, Bool as Truth, Null, Ref as Reference}
use Rattle.kr_classes_table.specs.Table.{Table, Class, Field, class_at, field_named, number_of}
use Rattle.kr_classes_table.specs.Rules.{is_earlier}
use Rattle.kr_classes_table.specs.Types.{width_in}
use Rattle.kr_classes_table.specs.Numbers.{Width, Bits32, Bits64, wider, wrap}
use Rattle.kr_classes_table.specs.Operators.{Applied, apply, apply_alone, converted, operator_width}

-- ---- values

abbrev pub value_in : Applied → Option Value
value_in (Ok v) = Some v
value_in (Err e) = None

abbrev pub unary_value : Width → UnaryOperator → Value → Option Value
unary_value w o v = value_in (apply_alone w o v)

-- the right operand counts only where it is needed
abbrev pub binary_value : Width → BinaryOperator → Option Value → Option Value → Option Value
binary_value w And (Some (Truth false)) b = Some (Truth false)
binary_value w Or (Some (Truth true)) b = Some (Truth true)
binary_value w o (Some a) (Some b) = value_in (apply w o a b)
binary_value w o a b = None

-- a cast to a number's type converts
abbrev pub cast_value : Option Width → Value → Value
cast_value (Some w) v = converted w v
cast_value None v = v

abbrev pub chosen : Option Value → Option Value → Option Value → Option Value
chosen (Some (Truth true)) a b = a
chosen (Some (Truth false)) a b = b
chosen c a b = None

-- ---- what names mean

abbrev pub constant_only : Field → Option Field
constant_only f = if f.is_static then Some f else None

abbrev pub or_else : {A : Type 0} → Option A → Option A → Option A
or_else (Some a) b = Some a
or_else None b = b

-- the outer class, if any
abbrev pub outer_class : Table → ℕ → Option ℕ
outer_class t c = option_and_then (λ d. d.outer) (class_at t.classes c)

-- the meaning of a simple name in the code of a class that no local has: a field or constant of the class or an
-- ancestor, else a constant of the outer class
abbrev pub field_meant : Table → ℕ → List ℕ → Option Field
field_meant t c n = or_else (field_named t c n) (option_and_then (λ o. option_and_then constant_only (field_named t o n)) (outer_class t c))

-- the constant of a class that a name before a dot means
abbrev pub constant_of : Table → Option ℕ → List ℕ → Option Field
constant_of t c n = option_and_then (λ d. option_and_then constant_only (field_named t d n)) c

-- the class that an expression before a dot means, where no field has its name
abbrev pub class_meant : Table → ℕ → Tree → Option ℕ
class_meant t c (trees.Variable p n) = if is_none (field_meant t c n) then number_of t.headings n else None
class_meant t c _ = None

-- ---- evaluation

-- a value that is known, by the place of the node that it is of: a constant's, by that of its name
pub record Known : Type 0 where
  pub place : Place
  pub value : Value

abbrev pub is_at_place : Place → Place → Bool
is_at_place p q = nat_eq p.file q.file && nat_eq p.line q.line && nat_eq p.col q.col

abbrev pub value_at : List Known → Place → Option Value
value_at [] p = None
value_at (k ∷ ks) p = if is_at_place k.place p then Some k.value else value_at ks p

-- no constant is a reference
abbrev pub constant_in : Value → Option Value
constant_in (Reference o) = None
constant_in v = Some v

abbrev pub known_value : List Known → Option Field → Option Value
known_value known f = option_and_then (λ g. option_and_then constant_in (value_at known g.place)) f

abbrev pub is_primitive : Tree → Bool
is_primitive (trees.PrimitiveType p k) = true
is_primitive _ = false

-- the width of the numbers of a written type
abbrev pub number_width : Tree → Option Width
number_width (trees.PrimitiveType p IntWord) = Some Bits32
number_width (trees.PrimitiveType p LongWord) = Some Bits64
number_width _ = None

-- the width of a constant's numbers, by its declared type
abbrev pub field_width : Option Field → Width
field_width (Some f) = width_in f.type
field_width None = Bits32

-- the width of an expression's numbers, by its type: a name's is declared, a cast's is written
unfoldable pub constant_width : Table → ℕ → Tree → Width
constant_width t c (trees.LongNumber p n) = Bits64
constant_width t c (trees.Variable p n) = field_width (field_meant t c n)
constant_width t c (trees.FieldAccess p e n) = field_width (constant_of t (class_meant t c e) n)
constant_width t c (trees.Unary p o e) = constant_width t c e
constant_width t c (trees.Binary p o a b) = operator_width o (constant_width t c a) (constant_width t c b)
constant_width t c (trees.Conditional p e a b) = wider (constant_width t c a) (constant_width t c b)
constant_width t c (trees.Cast p k e) = unwrap_or (number_width k) Bits32
constant_width t c _ = Bits32

-- it is made of literals, operators and the known constants
unfoldable pub is_constant : Table → List Known → ℕ → Tree → Bool
is_constant t known c (trees.Number p n) = true
is_constant t known c (trees.LongNumber p n) = true
is_constant t known c (trees.Truth p b) = true
is_constant t known c (trees.Null p) = true
is_constant t known c (trees.Variable p n) = is_some (known_value known (field_meant t c n))
is_constant t known c (trees.FieldAccess p e n) = is_some (known_value known (constant_of t (class_meant t c e) n))
is_constant t known c (trees.Unary p o e) = is_constant t known c e
is_constant t known c (trees.Binary p o a b) = is_constant t known c a && is_constant t known c b
is_constant t known c (trees.Conditional p e a b) = is_constant t known c e && is_constant t known c a && is_constant t known c b
is_constant t known c (trees.Cast p k e) = is_primitive k && is_constant t known c e
is_constant t known c _ = false

-- its value; none where a zero divisor is met
unfoldable pub evaluated : Table → List Known → ℕ → Tree → Option Value
evaluated t known c (trees.Number p n) = Some (Int (wrap Bits32 (pos n)))
evaluated t known c (trees.LongNumber p n) = Some (Int (wrap Bits64 (pos n)))
evaluated t known c (trees.Truth p b) = Some (Truth b)
evaluated t known c (trees.Null p) = Some Null
evaluated t known c (trees.Variable p n) = known_value known (field_meant t c n)
evaluated t known c (trees.FieldAccess p e n) = known_value known (constant_of t (class_meant t c e) n)
evaluated t known c (trees.Unary p o e) = option_and_then (unary_value (constant_width t c e) o) (evaluated t known c e)
evaluated t known c (trees.Binary p o a b) = binary_value (operator_width o (constant_width t c a) (constant_width t c b)) o (evaluated t known c a) (evaluated t known c b)
evaluated t known c (trees.Conditional p e a b) = chosen (evaluated t known c e) (evaluated t known c a) (evaluated t known c b)
evaluated t known c (trees.Cast p k e) = option_map (cast_value (number_width k)) (evaluated t known c e)
evaluated t known c _ = None

abbrev pub known_as : Place → Option Value → List Known
known_as p None = []
known_as p (Some v) = record { place = p; value = v } ∷ []

-- a constant after those that are declared before it
abbrev pub with_constant : Table → List Known → Field → List Known
with_constant t known f = if is_constant t known f.class f.initial then known ++ known_as f.place (evaluated t known f.class f.initial) else known

-- a constant among those in source order
abbrev pub placed : Field → List Field → List Field
placed f [] = f ∷ []
placed f (g ∷ gs) = if is_earlier f.place g.place then f ∷ g ∷ gs else g ∷ placed f gs

abbrev pub in_order : List Field → List Field
in_order [] = []
in_order (f ∷ fs) = placed f (in_order fs)

abbrev pub constants_in : Class → List Field
constants_in d = flat_map (λ f. option_to_list (constant_only f)) d.fields

-- the constants that have a value
unfoldable pub values_of : Table → List Known
values_of t = fold (with_constant t) [] (in_order (flat_map constants_in t.classes))
