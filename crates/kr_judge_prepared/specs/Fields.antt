-- Between crates: the fields of each class's objects, as they are kept.
use Rattle.std.specs.Prelude.{◌≡◌, ℕ, List, [], map, All, Vec}
use Rattle.std.specs.declared.alloc.Global.{Global}
use Rattle.std.proofs.Common.{get_or}
use Rattle.kr_ast.specs.Arena.{Arena}
use Rattle.kr_classes_table.specs.Table.{fields_of}
use Rattle.kr_classes_members.specs.declared.fields.Field.{Field}
use Rattle.kr_classes_members.specs.Shown.{IsField, field_shown, table_in}

abbrev pub rows_of : List (Vec Field Global) → List (List Field)
rows_of rows = map (λ row. row.items) rows

-- each class's, inherited ones first; of a class that isn't there none
pub record AreFieldsOf (files : List Arena) (rows : List (List Field)) : Type 0 where
  pub stands : All (All (IsField files)) rows
  pub shown : (c : ℕ) → map (field_shown files) (get_or rows c []) ≡ fields_of (table_in files) c
