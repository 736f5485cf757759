-- Fields, methods and names by their numbers.
use Rattle.std.proofs.Common.{◌≡◌, sym, ap, ◌∙◌, ℕ, ◌<◌, ◌≤◌, List, length, map, get_or, arith}
use Rattle.std.proofs.lemmas.List.{get_or-map, get_or_past, length-map}
use Rattle.std.specs.declared.vec.Vec.{Vec}
use Rattle.std.specs.declared.alloc.Global.{Global}
use Rattle.kr_ast.specs.Arena.{Arena}
use Rattle.kr_classes_members.specs.declared.fields.Field.{Field}
use Rattle.kr_classes_members.specs.declared.methods.Method.{Method}
use Rattle.kr_classes_members.specs.Shown.{field_shown, method_shown, table_in}
use Rattle.kr_code.specs.Tables.{row_items}
use Rattle.kr_classes_members.specs.declared.roster.Roster.{Roster}
use Rattle.kr_classes_members.specs.Rosters.{IsRoster, all_fields, all_methods, field_numbered, method_numbered, no_field, no_method, no_name}
use Rattle.kr_code_bodies.specs.Tabled.{name_numbered}

module _ (files : List Arena) (r : Roster) (is : IsRoster files r) (k : ℕ) where
  pub field_there : (xs : List Field) (x : Field) → xs ≡ r.fields.items → k < length xs → field_numbered (table_in files) k ≡ field_shown files (get_or xs k x)
  field_there xs x e h = ap (λ fs. get_or fs k (no_field (table_in files))) (sym is.fields ∙ ap (map (field_shown files)) (sym e)) ∙ get_or-map (field_shown files) xs k x (no_field (table_in files)) h

  pub field_absent : length r.fields.items ≤ k → field_numbered (table_in files) k ≡ no_field (table_in files)
  field_absent l = get_or_past (all_fields (table_in files)) k (no_field (table_in files)) (omega (arith, l, ap length is.fields, length-map r.fields.items (field_shown files)))

  pub method_there : (xs : List Method) (x : Method) → xs ≡ r.methods.items → k < length xs → method_numbered (table_in files) k ≡ method_shown files (get_or xs k x)
  method_there xs x e h = ap (λ ms. get_or ms k (no_method (table_in files))) (sym is.methods ∙ ap (map (method_shown files)) (sym e)) ∙ get_or-map (method_shown files) xs k x (no_method (table_in files)) h

  pub method_absent : length r.methods.items ≤ k → method_numbered (table_in files) k ≡ no_method (table_in files)
  method_absent l = get_or_past (all_methods (table_in files)) k (no_method (table_in files)) (omega (arith, l, ap length is.methods, length-map r.methods.items (method_shown files)))

module _ (files : List Arena) (names : List (Vec ℕ Global)) (k : ℕ) where
  pub name_there : (v : Vec ℕ Global) → k < length names → name_numbered files (map row_items names) k ≡ (get_or names k v).items
  name_there v h = get_or-map row_items names k v (no_name (table_in files)) h

  pub name_absent : length names ≤ k → name_numbered files (map row_items names) k ≡ no_name (table_in files)
  name_absent l = get_or_past (map row_items names) k (no_name (table_in files)) (omega (arith, l, length-map names row_items))
