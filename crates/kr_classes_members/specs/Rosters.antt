-- Between crates: the fields and the methods of all classes by number: those of one class after those of another, each in source
-- order.
use Rattle.std.specs.Prelude.{◌≡◌, ℕ, ◌<◌, List, [], ◌∷◌, length, map, take, flat_map, All, slice_index_or, false}
use Rattle.kr_base.specs.Places.{nowhere}
use Rattle.kr_ast.specs.Arena.{Arena}
use Rattle.kr_ast.specs.Tree.{Nil}
use Rattle.kr_classes_table.specs.Types.{VoidType}
use Rattle.kr_classes_table.specs.Table.{Table, Class, Field, Method}
use Rattle.kr_classes_members.specs.Shown.{IsField, IsMethod, field_shown, method_shown, table_in}
use Rattle.kr_classes_members.specs.declared.roster.Roster.{Roster}

abbrev pub fields_of_class : Class → List Field
fields_of_class d = d.fields

abbrev pub methods_of_class : Class → List Method
methods_of_class d = d.methods

abbrev pub all_fields : Table → List Field
all_fields t = flat_map fields_of_class t.classes

abbrev pub all_methods : Table → List Method
all_methods t = flat_map methods_of_class t.classes

-- how many there are in the classes before one
abbrev pub first_of : {A : Type 0} → (Class → List A) → Table → ℕ → ℕ
first_of part t c = length (flat_map part (take c t.classes))

-- the field of an unused number
abbrev pub no_field : Table → Field
no_field t = record { class = length t.classes; name = []; place = nowhere; is_static = false; is_final = false; type = VoidType; initial = Nil }

abbrev pub no_method : Table → Method
no_method t = record { class = length t.classes; name = []; place = nowhere; is_static = false; parameters = []; result = VoidType; contracts = []; body = [] }

abbrev pub field_numbered : Table → ℕ → Field
field_numbered t k = slice_index_or (all_fields t) k (no_field t)

abbrev pub method_numbered : Table → ℕ → Method
method_numbered t k = slice_index_or (all_methods t) k (no_method t)

-- a name that no field has: it is longer than each of theirs
abbrev pub no_name : Table → List ℕ
no_name t = 0 ∷ flat_map (λ f. f.name) (all_fields t)

-- the numbers of the first ones of each class
abbrev pub AreFirst : {A : Type 0} → (Class → List A) → Table → List ℕ → Type 0
AreFirst part t ns = (c : ℕ) → c < length ns → slice_index_or ns c 0 ≡ first_of part t c

-- those of the classes of these files
pub record IsRoster (files : List Arena) (r : Roster) : Type 0 where
  pub fields : map (field_shown files) r.fields.items ≡ all_fields (table_in files)
  pub methods : map (method_shown files) r.methods.items ≡ all_methods (table_in files)
  pub fields_stand : All (IsField files) r.fields.items
  pub methods_stand : All (IsMethod files) r.methods.items
  pub few_fields : length r.fields.items < 4294967295
  pub few_methods : length r.methods.items < 4294967295
  pub all_first_fields : length r.first_fields.items ≡ length (table_in files).classes
  pub all_first_methods : length r.first_methods.items ≡ length (table_in files).classes
  pub first_fields : AreFirst fields_of_class (table_in files) r.first_fields.items
  pub first_methods : AreFirst methods_of_class (table_in files) r.first_methods.items
