-- Numbers past the last class, and numbers without field or method.
use Rattle.std.proofs.Common.{◌≡◌, refl, sym, ap, ℕ, ◌<◌, ◌≤◌, Bool, true, false, List, [], length, arith, ◌⊎◌, inl, inr, if◌then◌else◌}
use Rattle.std.specs.Prelude.{Option, None}
use Rattle.std.proofs.lemmas.List.Elements.{All-nil}
use Rattle.kr_ast.specs.Arena.{Arena}
use Rattle.kr_classes_table.specs.Table.{Field, Method, is_below, method_named}
use Rattle.kr_classes_members.specs.Shown.{IsField, table_in}
use Rattle.kr_mean.specs.Program.{field_position, position_from}
use Rattle.kr_classes_members.specs.Rosters.{no_field, no_method}
use Rattle.kr_code_bodies.specs.Tabled.{AreFieldsOf, IsOverrider, IsPosition, IsSpot, program_in}
use Rattle.kr_code_bodies.proofs.Lines.{fields_past, methods_past, never_below}

no_choice : {A : Type 0} (b : Bool) (o : Option A) → o ≡ None → (if b then o else None) ≡ None
no_choice true o e = e
no_choice false o e = refl

not_chosen : {A : Type 0} (b : Bool) (o : Option A) → b ≡ false → (if b then o else None) ≡ None
not_chosen b o e = ap (λ x. if x then o else None) e

module _ (files : List Arena) (c : ℕ) where
  pub no_fields : length (table_in files).classes ≤ c → AreFieldsOf files c []
  no_fields l = record { few = omega arith; stand = All-nil (IsField files); shown = sym (fields_past (table_in files) c l) }

  pub position_past : length (table_in files).classes ≤ c → (n : List ℕ) → IsPosition files n c None
  position_past l n = sym (ap (λ fs. position_from 0 fs n) (fields_past (table_in files) c l))

  pub spot_past : length (table_in files).classes ≤ c → (f : Field) → IsSpot files f c None
  spot_past l f = sym (no_choice (is_below (table_in files) c f.class) (field_position (program_in files []) c f.name) (sym (position_past l f.name)))

  pub overrider_past : length (table_in files).classes ≤ c → (m : Method) → IsOverrider files m c None
  overrider_past l m = record { within = tt; shown = sym (no_choice (is_below (table_in files) c m.class) (method_named (table_in files) c m.name) (methods_past (table_in files) c l m.name)) }

  -- a member of no class is nowhere
  pub no_spot : IsSpot files (no_field (table_in files)) c None
  no_spot = elim (let d : (c < length (table_in files).classes) ⊎ (length (table_in files).classes ≤ c) = grind arith in d) [
    | inl h ↦ sym (not_chosen (is_below (table_in files) c (length (table_in files).classes)) (field_position (program_in files []) c []) (never_below files c (length (table_in files).classes) h (omega arith)))
    | inr l ↦ spot_past l (no_field (table_in files))
  ]

  pub no_overrider : IsOverrider files (no_method (table_in files)) c None
  no_overrider = elim (let d : (c < length (table_in files).classes) ⊎ (length (table_in files).classes ≤ c) = grind arith in d) [
    | inl h ↦ record { within = tt; shown = sym (not_chosen (is_below (table_in files) c (length (table_in files).classes)) (method_named (table_in files) c []) (never_below files c (length (table_in files).classes) h (omega arith))) }
    | inr l ↦ overrider_past l (no_method (table_in files))
  ]
