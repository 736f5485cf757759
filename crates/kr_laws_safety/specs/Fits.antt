-- Between crates: when values, objects and heaps are of their types (the Java Language Specification, 4.3, 4.10, 4.12.2). Each
-- object of a heap has a type that it keeps. A collection's type has that of its members, which its class doesn't determine.
use Rattle.std.specs.Prelude.{◌≡◌, ℕ, ◌<◌, ◌≤◌, ℤ, pos, negsuc, true, List, [], ◌∷◌, length, map}
use Rattle.std.proofs.Common.{get_or}
use Rattle.kr_value.specs.declared.value.Value.{Value}
use Rattle.kr_value.specs.declared.value.Value.TheVariants.{Int, Bool as Truth, Null, Ref as Reference}
use Rattle.kr_value.specs.declared.object.Class.{Class}
use Rattle.kr_value.specs.declared.object.Class.TheVariants.{Object, Array, Set, List as ListClass}
use Rattle.kr_value.specs.Heaps.{HeapObject}
use Rattle.kr_classes_table.specs.Types.{JavaType, NumberType, BooleanType, VoidType, ClassType, ArrayType, SetType, ListType, is_element, is_reference}
use Rattle.kr_classes_table.specs.Table.{Table, fields_of, is_assignable}
use Rattle.kr_classes_table.specs.Numbers.{Width, half}
use Rattle.kr_mean.specs.Program.{Program, is_array_of}

-- ---- values

-- a number of a width
abbrev pub IsWithin : Width → ℤ → Type 0
IsWithin w (pos n) = n < half w
IsWithin w (negsuc n) = n < half w

-- the type of an object by its number
abbrev pub type_at : List JavaType → ℕ → JavaType
type_at types o = get_or types o VoidType

-- A number within the width of its type, a boolean; null is of each reference type, and an object of those to which its own may be assigned.
abbrev pub IsOf : Table → List JavaType → JavaType → Value → Type 0
IsOf table types t (Int z) = (w : Width) × (t ≡ NumberType w) × IsWithin w z
IsOf table types t (Truth b) = t ≡ BooleanType
IsOf table types t Null = is_reference t ≡ true
IsOf table types t (Reference o) = (o < length types) × (is_assignable table (type_at types o) t ≡ true)

-- values in order, each of its type
abbrev pub AreOf : Table → List JavaType → List JavaType → List Value → Type 0
AreOf table types [] [] = Unit {0}
AreOf table types (t ∷ ts) (v ∷ vs) = IsOf table types t v × AreOf table types ts vs
AreOf table types ts vs = ⊥

-- values of one type
abbrev pub AreAll : Table → List JavaType → JavaType → List Value → Type 0
AreAll table types t [] = Unit {0}
AreAll table types t (v ∷ vs) = IsOf table types t v × AreAll table types t vs

-- ---- objects

-- a possible length: an int
abbrev pub IsLength : ℕ → Type 0
IsLength n = n < 2147483648

-- an array of a type that the program doesn't number
abbrev pub IsUnnumbered : Program → Class → Type 0
IsUnnumbered program (Array k) = length program.arrays ≤ k
IsUnnumbered program class = ⊥

-- An object's fields, inherited ones first; an array's elements; a collection's members. An array whose type the program
-- doesn't number has `void` elements, so that no variable holds it; nothing more is required of it.
abbrev pub IsObjectOf : Program → List JavaType → JavaType → HeapObject → Type 0
IsObjectOf program types (ClassType c) o = (o.class ≡ Object c) × AreOf program.table types (map (λ f. f.type) (fields_of program.table c)) o.values
IsObjectOf program types (ArrayType t) o = (is_array_of program t o.class ≡ true) × AreAll program.table types t o.values × IsLength (length o.values)
IsObjectOf program types (SetType t) o = (o.class ≡ Set) × (is_element t ≡ true) × AreAll program.table types t o.values
IsObjectOf program types (ListType t) o = (o.class ≡ ListClass) × (is_element t ≡ true) × AreAll program.table types t o.values
IsObjectOf program types VoidType o = IsUnnumbered program o.class
IsObjectOf program types t o = ⊥

-- objects in order, each of its type, where the types of all objects are known
abbrev pub AreObjects : Program → List JavaType → List JavaType → List HeapObject → Type 0
AreObjects program types [] [] = Unit {0}
AreObjects program types (t ∷ ts) (o ∷ os) = IsObjectOf program types t o × AreObjects program types ts os
AreObjects program types ts os = ⊥

-- a heap whose objects have these types
abbrev pub IsHeapOf : Program → List JavaType → List HeapObject → Type 0
IsHeapOf program types heap = AreObjects program types types heap
