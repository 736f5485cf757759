-- Between crates: the tables of a program's code.
use Rattle.std.specs.Prelude.{◌≡◌, ℕ, ◌<◌, ◌^◌, List, [], All, Bool, Option, None, false, length, map, codes, bytes_eq, nat_eq, option_map, slice_index_or, IfSome}
use Rattle.std.proofs.Common.{get_or}
use Rattle.kr_ast.specs.Arena.{Arena}
use Rattle.kr_value.specs.declared.object.Class.TheVariants.{Object, Array}
use Rattle.kr_classes_table.specs.Types.{JavaType, ArrayType, is_same}
use Rattle.kr_classes_table.specs.Table.{Field, Method, fields_of}
use Rattle.kr_classes_members.specs.Shown.{IsField, field_shown, table_in}
use Rattle.kr_classes_members.specs.declared.fields.Field as members
use Rattle.kr_classes_names.specs.Types.{TypeList, type_at}
use Rattle.kr_mean.specs.Program.{Program, program_with, field_position, spot_of_field, overriding, is_of_type}
use Rattle.kr_mean.specs.Thrown.{class_of_kind, step_kinds}
use Rattle.kr_code.specs.Tables.{is_numbered, row_items}
use Rattle.kr_classes_members.specs.Rosters.{all_methods, field_numbered, method_numbered, no_name}
use Rattle.kr_code_bodies.specs.declared.field_lists.ObjectFields.{ObjectFields}
use Rattle.kr_code_bodies.specs.declared.tables.Tables.{Tables}
use Rattle.kr_code_bodies.specs.Rows.{AreRows, IsRow}

-- the program of these files, with these array types
abbrev pub program_in : List Arena → List JavaType → Program
program_in files arrays = program_with (table_in files) arrays

-- the name of a number; the others have one that no field has
abbrev pub name_numbered : List Arena → List (List ℕ) → ℕ → List ℕ
name_numbered files names k = slice_index_or names k (no_name (table_in files))

-- ---- cells

abbrev pub IsPosition : List Arena → List ℕ → ℕ → Option ℕ → Type 0
IsPosition files name c o = o ≡ field_position (program_in files []) c name

abbrev pub IsSpot : List Arena → Field → ℕ → Option ℕ → Type 0
IsSpot files f c o = o ≡ spot_of_field (program_in files []) f (Object c)

-- a method by its number
pub record IsOverrider (files : List Arena) (m : Method) (c : ℕ) (o : Option ℕ) : Type 0 where
  pub within : IfSome o (λ k. k < length (all_methods (table_in files)))
  pub shown : option_map (method_numbered (table_in files)) o ≡ overriding (program_in files []) m (Object c)

abbrev pub IsInstance : List Arena → List JavaType → JavaType → ℕ → Bool → Type 0
IsInstance files arrays t c b = b ≡ is_of_type (program_in files arrays) t (Object c)

abbrev pub IsArrayInstance : List Arena → List JavaType → JavaType → ℕ → Bool → Type 0
IsArrayInstance files arrays t k b = b ≡ is_of_type (program_in files arrays) t (Array k)

-- arrays of the first type are instances of the second
abbrev pub are_of : JavaType → JavaType → Bool
are_of a (ArrayType u) = is_same a (ArrayType u)
are_of a t = false

-- the number is that of the one type that the arrays of a class are instances of; there is none where they are of no type
abbrev pub IsArrayType : List Arena → TypeList → List JavaType → ℕ → Option ℕ → Type 0
IsArrayType files l arrays k o = (t : ℕ) → IsArrayInstance files arrays (type_at l t) k (is_numbered t o)

-- ---- the fields of objects

-- the fields that a class's objects have
pub record AreFieldsOf (files : List Arena) (c : ℕ) (fields : List members.Field) : Type 0 where
  pub few : length fields < 2 ^ 32
  pub stand : All (IsField files) fields
  pub shown : map (field_shown files) fields ≡ fields_of (table_in files) c

abbrev pub fields_at : ObjectFields → ℕ → List members.Field
fields_at fields c = get_or (map row_items fields.classes.items) c []

-- those of each class
pub record AreObjectFields (files : List Arena) (fields : ObjectFields) : Type 0 where
  pub count : length fields.classes.items ≡ length (table_in files).classes
  pub small : length fields.classes.items < 2 ^ 32
  pub each : (c : ℕ) → AreFieldsOf files c (fields_at fields c)

-- ---- the whole

-- Of these names, and of all fields, methods and types by their numbers; each number has a row, also one that means nothing.
-- The first name is `length`, and no other one is.
pub record AreTabled (files : List Arena) (l : TypeList) (arrays : List JavaType) (names : List (List ℕ)) (t : Tables) : Type 0 where
  pub length_name : (k : ℕ) → bytes_eq (name_numbered files names k) (codes "length") ≡ nat_eq k 0
  pub positions : AreRows None (λ k. IsPosition files (name_numbered files names k)) t.positions.items
  pub spots : AreRows None (λ k. IsSpot files (field_numbered (table_in files) k)) t.spots.items
  pub dispatch : AreRows None (λ k. IsOverrider files (method_numbered (table_in files) k)) t.dispatch.items
  pub instances : AreRows false (λ k. IsInstance files arrays (type_at l k)) t.instances.items
  pub array_types : IsRow None (IsArrayType files l arrays) t.array_types.items
  pub traps : t.trap_classes.items ≡ map (class_of_kind (program_in files arrays)) step_kinds
