-- Between crates: names of types in parts, and the types of forms.
use Rattle.std.specs.Prelude.{◌≡◌, ℕ, List, ◌++◌}
use Rattle.kr_classes_names.specs.Types.{TypeList, type_of_form}
use Rattle.kr_classes_names.specs.declared.form.TypeForm.{TypeForm}
use Rattle.kr_classes_table.specs.Types.{JavaType}
use Rattle.kr_emit.specs.declared.types.TypeName.{TypeName}

-- the parts one after another
abbrev pub type_name : TypeName → List ℕ
type_name t = t.outer.now ++ (t.dot.now ++ t.name.now)

-- the form is the type's
abbrev pub IsFormOf : TypeList → TypeForm → JavaType → Type 0
IsFormOf types form t = type_of_form types form ≡ t
