-- Between crates: what the classes of a program have, as far as types need it; and an object's type, from its class.
use Rattle.std.specs.Prelude.{Bool, false, ◌≡◌, ℕ, ◌<◌, true, List, length, map, Option, Some, None}
use Rattle.std.proofs.Common.{get_or}
use Rattle.kr_ast.specs.declared.node.BinaryOperator.{BinaryOperator}
use Rattle.kr_ast.specs.declared.node.BinaryOperator.TheVariants.{And, Or}
use Rattle.kr_value.specs.declared.value.Value.{Value}
use Rattle.kr_value.specs.declared.value.Value.TheVariants.{Null, Ref as Reference}
use Rattle.kr_value.specs.declared.object.Class.{Class}
use Rattle.kr_value.specs.declared.object.Class.TheVariants.{Object, Set, List as ListClass}
use Rattle.kr_classes_table.specs.Types.{JavaType, VoidType, ClassType, ArrayType, SetType, ListType}
use Rattle.kr_classes_table.specs.Table.{fields_of, is_below}
use Rattle.kr_mean.specs.Program.{Program, is_array_of, field_position}
use Rattle.kr_laws_safety.specs.Fits.{type_at}

-- the types of the fields of a class's objects
abbrev pub field_types : Program → ℕ → List JavaType
field_types program c = map (λ f. f.type) (fields_of program.table c)

-- where an object of a class has a field of a type
abbrev pub IsFieldAt : Program → ℕ → List ℕ → JavaType → Type 0
IsFieldAt program c n t = (k : ℕ) × (field_position program c n ≡ Some k) × (k < length (field_types program c)) × (get_or (field_types program c) k VoidType ≡ t)

-- the objects of a class and of those below it have a field of a name and a type
pub record HasField (program : Program) (c : ℕ) (n : List ℕ) (t : JavaType) : Type 0 where
  pub at : (d : ℕ) → is_below program.table d c ≡ true → IsFieldAt program d n t

-- the class of an object of a type
abbrev pub IsClassOf : Program → JavaType → Class → Type 0
IsClassOf program (ClassType c) class = class ≡ Object c
IsClassOf program (ArrayType t) class = is_array_of program t class ≡ true
IsClassOf program (SetType t) class = class ≡ Set
IsClassOf program (ListType t) class = class ≡ ListClass
IsClassOf program t class = ⊥

-- the class of a reference's object; null has none
abbrev pub IsSeen : Program → List JavaType → Value → Option Class → Type 0
IsSeen program types Null seen = seen ≡ None
IsSeen program types (Reference o) seen = (class : Class) × (seen ≡ Some class) × IsClassOf program (type_at types o) class
IsSeen program types v seen = ⊥

-- the two types of collections
pub data Collection : Type 0 where
  Sets : Collection
  Lists : Collection

abbrev pub type_with : Collection → JavaType → JavaType
type_with Sets t = SetType t
type_with Lists t = ListType t

abbrev pub class_with : Collection → Class
class_with Sets = Set
class_with Lists = ListClass

-- the operators that look at the second operand only where the first leaves it open
abbrev pub is_junction : BinaryOperator → Bool
is_junction And = true
is_junction Or = true
is_junction o = false
