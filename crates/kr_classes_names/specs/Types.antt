-- Between crates: the types of type numbers.
use Rattle.std.specs.Prelude.{◌≡◌, ℕ, ◌<◌, ◌≤◌, ◌==◌, Bool, List, [], length, map, Some, slice_get, slice_index_or}
use Rattle.kr_ast.specs.Grow.{grow}
use Rattle.kr_classes_table.specs.Numbers.{Bits32, Bits64}
use Rattle.kr_classes_table.specs.Types.{JavaType, NumberType, BooleanType, NullType, VoidType, ClassType, ArrayType, SetType, ListType, InferredType, UnknownType, AppliedType, is_known, is_same}
use Rattle.kr_classes_names.specs.declared.form.TypeForm.{TypeForm}
use Rattle.kr_classes_names.specs.declared.form.TypeForm.TheVariants as forms
use Rattle.kr_classes_names.specs.ListedTypes.{AreApart}

-- the forms of the types by their numbers, and the names that unknown ones are spelled with
pub record TypeList : Type 0 where
  pub names : List (List ℕ)
  pub forms : List TypeForm

abbrev pub name_at : List (List ℕ) → ℕ → List ℕ
name_at names n = slice_index_or names n []

-- a type, from the types of the numbers in its form
abbrev pub type_in : List (List ℕ) → (ℕ → JavaType) → TypeForm → JavaType
type_in names look (forms.Number w) = NumberType w
type_in names look forms.Boolean = BooleanType
type_in names look forms.Null = NullType
type_in names look forms.Void = VoidType
type_in names look forms.Inferred = InferredType
type_in names look (forms.Class c) = ClassType c
type_in names look (forms.Array t) = ArrayType (look t)
type_in names look (forms.Set t) = SetType (look t)
type_in names look (forms.List t) = ListType (look t)
type_in names look (forms.Unknown o n) = UnknownType (name_at names o) (name_at names n)
type_in names look (forms.Applied h t) = AppliedType (look h) (look t)

abbrev pub made_of : List (List ℕ) → List JavaType → TypeForm → JavaType
made_of names done f = type_in names (λ n. slice_index_or done n VoidType) f

-- the types of the forms, each made of those before it
unfoldable pub types_of : TypeList → List JavaType
types_of l = grow (made_of l.names) [] l.forms

-- the type of a number
abbrev pub type_at : TypeList → ℕ → JavaType
type_at l n = slice_index_or (types_of l) n VoidType

abbrev pub type_of_form : TypeList → TypeForm → JavaType
type_of_form l f = type_in l.names (type_at l) f

abbrev pub count : TypeList → ℕ
count l = length l.forms

-- the numbers in a form are below these
abbrev pub IsMadeBelow : ℕ → ℕ → TypeForm → Type 0
IsMadeBelow n m (forms.Array t) = t < n
IsMadeBelow n m (forms.Set t) = t < n
IsMadeBelow n m (forms.List t) = t < n
IsMadeBelow n m (forms.Unknown a b) = (a < m) × (b < m)
IsMadeBelow n m (forms.Applied h t) = (h < n) × (t < n)
IsMadeBelow n m _ = Unit {0}

-- the types and the name in a form exist
abbrev pub IsMadeOf : TypeList → TypeForm → Type 0
IsMadeOf l f = IsMadeBelow (length l.forms) (length l.names) f

-- the types that are always there, first
pub record IsBased (fs : List TypeForm) : Type 0 where
  pub int : slice_get fs 0 ≡ Some (forms.Number Bits32)
  pub boolean : slice_get fs 1 ≡ Some forms.Boolean
  pub null : slice_get fs 2 ≡ Some forms.Null
  pub void : slice_get fs 3 ≡ Some forms.Void
  pub inferred : slice_get fs 4 ≡ Some forms.Inferred
  pub long : slice_get fs 5 ≡ Some (forms.Number Bits64)

-- each form refers to earlier types only
abbrev pub AreOrdered : TypeList → Type 0
AreOrdered l = (i : ℕ) (f : TypeForm) → slice_get l.forms i ≡ Some f → IsMadeBelow i (length l.names) f

-- forms and names are distinct, and for each type it is kept whether it is known
pub record AreTypes (l : TypeList) (known : List Bool) : Type 0 where
  pub ordered : AreOrdered l
  pub based : IsBased l.forms
  pub known_are : known ≡ map is_known (types_of l)
  pub forms_apart : AreApart l.forms
  pub names_apart : AreApart l.names

-- equal types have one number
abbrev pub AreDistinct : TypeList → Type 0
AreDistinct l = (m n : ℕ) → m < count l → n < count l → is_same (type_at l m) (type_at l n) ≡ (m == n)

-- more types: those that were keep their numbers
pub record Extends (old new : TypeList) : Type 0 where
  pub more : count old ≤ count new
  pub same : (n : ℕ) → n < count old → type_at new n ≡ type_at old n

-- a number of that type
pub record IsTypeNumber (l : TypeList) (n : ℕ) (t : JavaType) : Type 0 where
  pub within : n < count l
  pub type_is : type_at l n ≡ t
