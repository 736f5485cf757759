-- Fields and methods by how they are used.
use Rattle.std.proofs.Common.{◌≡◌, sym, ap, ◌∙◌, ℕ, ◌<◌, true, false, cond, List, length, get_or, arith}
use Rattle.std.specs.Prelude.{Some, slice_get}
use Rattle.std.proofs.lemmas.List.{length-map}
use Rattle.std.proofs.lemmas.Option.{get_or_from_slice_get}
use Rattle.kr_ast.specs.Arena.{Arena}
use Rattle.kr_classes_table.specs.Table as table
use Rattle.kr_classes_members.specs.declared.fields.Field.{Field}
use Rattle.kr_classes_members.specs.declared.methods.Method.{Method}
use Rattle.kr_classes_members.specs.Shown.{field_shown, method_shown, table_in}
use Rattle.kr_classes_members.specs.declared.roster.Roster.{Roster}
use Rattle.kr_classes_members.specs.Rosters.{IsRoster, all_fields, all_methods, field_numbered, method_numbered, no_method}
use Rattle.kr_types_resolving.proofs.Rostered.{field_got, field_is, method_got}
use Rattle.kr_types_resolving.specs.Meanings.{Constant, Instance, Static, Virtual, field_meaning, method_meaning}

module _ (files : List Arena) (r : Roster) (is : IsRoster files r) (k : ℕ) where
  pub field_there : k < length (all_fields (table_in files)) → k < length r.fields.items
  field_there h = omega (arith, h, ap length is.fields, length-map r.fields.items (field_shown files))

  pub method_there : k < length (all_methods (table_in files)) → k < length r.methods.items
  method_there h = omega (arith, h, ap length is.methods, length-map r.methods.items (method_shown files))

  module _ (x : Field) (h : k < length (all_fields (table_in files))) (at : x ≡ get_or r.fields.items k x) where
    numbered : field_numbered (table_in files) k ≡ field_shown files x
    numbered = field_is files r is k x h at

    pub constant_said : x.is_static ≡ true → Constant (field_numbered (table_in files) k) ≡ field_meaning (slice_get (all_fields (table_in files)) k)
    constant_said b = let f = field_shown files x in ap (λ (g : table.Field). Constant g) numbered ∙ (sym (ap (λ v. cond v (Constant f) (Instance f)) b) ∙ ap field_meaning (sym (field_got files r is k x h at)))

    pub instance_said : x.is_static ≡ false → Instance (field_numbered (table_in files) k) ≡ field_meaning (slice_get (all_fields (table_in files)) k)
    instance_said b = let f = field_shown files x in ap (λ (g : table.Field). Instance g) numbered ∙ (sym (ap (λ v. cond v (Constant f) (Instance f)) b) ∙ ap field_meaning (sym (field_got files r is k x h at)))

  module _ (x : Method) (h : k < length (all_methods (table_in files))) (at : x ≡ get_or r.methods.items k x) where
    got : slice_get (all_methods (table_in files)) k ≡ Some (method_shown files x)
    got = method_got files r is k x h at

    method_is : method_numbered (table_in files) k ≡ method_shown files x
    method_is = get_or_from_slice_get (all_methods (table_in files)) k (method_shown files x) (no_method (table_in files)) got

    pub static_said : x.is_static ≡ true → Static (method_numbered (table_in files) k) ≡ method_meaning (slice_get (all_methods (table_in files)) k)
    static_said b = let m = method_shown files x in ap (λ (g : table.Method). Static g) method_is ∙ (sym (ap (λ v. cond v (Static m) (Virtual m)) b) ∙ ap method_meaning (sym got))

    pub virtual_said : x.is_static ≡ false → Virtual (method_numbered (table_in files) k) ≡ method_meaning (slice_get (all_methods (table_in files)) k)
    virtual_said b = let m = method_shown files x in ap (λ (g : table.Method). Virtual g) method_is ∙ (sym (ap (λ v. cond v (Static m) (Virtual m)) b) ∙ ap method_meaning (sym got))
