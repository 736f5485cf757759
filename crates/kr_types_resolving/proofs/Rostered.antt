-- Fields and methods by their numbers.
use Rattle.std.proofs.Common.{◌≡◌, refl, sym, ap, ◌∙◌, ℕ, ◌<◌, List, length, arith, get_or, Some}
use Rattle.std.specs.Prelude.{option_map, slice_get}
use Rattle.std.proofs.lemmas.List.{length-map}
use Rattle.std.proofs.lemmas.Option.{get_or_from_slice_get, slice_get-map, slice_get_read}
use Rattle.kr_ast.specs.Arena.{Arena}
use Rattle.kr_classes_members.specs.declared.fields.Field.{Field}
use Rattle.kr_classes_members.specs.declared.methods.Method.{Method}
use Rattle.kr_classes_members.specs.Shown.{field_shown, method_shown, table_in}
use Rattle.kr_classes_members.specs.declared.roster.Roster.{Roster}
use Rattle.kr_classes_members.specs.Rosters.{IsRoster, all_fields, all_methods, field_numbered, no_field}

pub field_got : (files : List Arena) (r : Roster) → IsRoster files r → (k : ℕ) (x : Field) → k < length (all_fields (table_in files)) → x ≡ get_or r.fields.items k x → slice_get (all_fields (table_in files)) k ≡ Some (field_shown files x)
field_got files r is k x h e =
    let n : k < length r.fields.items = omega (arith, h, ap length is.fields, length-map r.fields.items (field_shown files)) in
    ap (λ fs. slice_get fs k) (sym is.fields) ∙ (slice_get-map (field_shown files) r.fields.items k ∙ ap (option_map (field_shown files)) (slice_get_read r.fields.items (length r.fields.items) k x refl n e))

pub field_is : (files : List Arena) (r : Roster) → IsRoster files r → (k : ℕ) (x : Field) → k < length (all_fields (table_in files)) → x ≡ get_or r.fields.items k x → field_numbered (table_in files) k ≡ field_shown files x
field_is files r is k x h e = get_or_from_slice_get (all_fields (table_in files)) k (field_shown files x) (no_field (table_in files)) (field_got files r is k x h e)

pub method_got : (files : List Arena) (r : Roster) → IsRoster files r → (k : ℕ) (x : Method) → k < length (all_methods (table_in files)) → x ≡ get_or r.methods.items k x → slice_get (all_methods (table_in files)) k ≡ Some (method_shown files x)
method_got files r is k x h e =
    let n : k < length r.methods.items = omega (arith, h, ap length is.methods, length-map r.methods.items (method_shown files)) in
    ap (λ fs. slice_get fs k) (sym is.methods) ∙ (slice_get-map (method_shown files) r.methods.items k ∙ ap (option_map (method_shown files)) (slice_get_read r.methods.items (length r.methods.items) k x refl n e))
