-- The field at a position: whether it is of type `long`, and its name.
use Rattle.std.proofs.Common.{◌≡◌, ℕ, List, [], Bool, false, map, get_or, sym, ap, ◌∙◌}
use Rattle.std.proofs.Math.ListN.{get_or-map}
use Rattle.kr_ast.specs.Arena.{Arena}
use Rattle.kr_classes_members.specs.Shown.{field_name, field_shown}
use Rattle.kr_classes_members.specs.declared.fields.Field.{Field}
use Rattle.kr_classes_names.proofs.Walks.{map_map}
use Rattle.kr_classes_table.specs.Table as table
use Rattle.kr_classes_table.specs.Types.{VoidType}
use Rattle.kr_emit_meaning.specs.Builders.{is_long}

-- fields that these files have
module _ (trees files : List Arena) (fields : List Field) (shown : List table.Field) (i : ℕ) (same : trees ≡ files) (are : map (field_shown files) fields ≡ shown) where
  pub name_at : get_or (map (field_name trees) fields) i [] ≡ get_or (map (λ (f : table.Field). f.name) shown) i []
  name_at =
      ap (λ (fs : List Arena). get_or (map (field_name fs) fields) i []) same
      ∙ ap (λ (ns : List (List ℕ)). get_or ns i []) (sym (map_map (λ (f : table.Field). f.name) (field_shown files) fields) ∙ ap (map (λ (f : table.Field). f.name)) are)

  pub long_at : get_or (map (λ (f : Field). is_long (field_shown trees f).type) fields) i false ≡ is_long (get_or (map (λ (f : table.Field). f.type) shown) i VoidType)
  long_at =
      let types : map (λ (f : Field). (field_shown files f).type) fields ≡ map (λ (f : table.Field). f.type) shown = sym (map_map (λ (f : table.Field). f.type) (field_shown files) fields) ∙ ap (map (λ (f : table.Field). f.type)) are in
      ap (λ (fs : List Arena). get_or (map (λ (f : Field). is_long (field_shown fs f).type) fields) i false) same
      ∙ (ap (λ (bs : List Bool). get_or bs i false) (sym (map_map is_long (λ (f : Field). (field_shown files f).type) fields) ∙ ap (map is_long) types)
      ∙ get_or-map is_long (map (λ (f : table.Field). f.type) shown) i VoidType)
