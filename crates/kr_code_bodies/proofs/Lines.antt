-- Lines of classes: past the last class nothing is declared, and no line leads there.
use Rattle.std.proofs.Common.{◌≡◌, refl, All, map, ap, ◌∙◌, ℕ, ◌+◌, ◌<◌, ◌≤◌, false, ◌||◌, List, [], ◌∷◌, ◌++◌, length, arith}
use Rattle.std.specs.Prelude.{None, option_and_then, option_to_list, find, flat_map, reverse}
use Rattle.std.proofs.lemmas.List.Elements.{All-head, All-tail, All-weaker}
use Rattle.kr_ast.specs.Arena.{Arena, root}
use Rattle.kr_classes_table.specs.Table.{Table, Class, Method, fields_of, is_among, is_below, is_instance, line_of, line_within, method_named, own_fields, own_methods}
use Rattle.kr_classes_members.specs.Shown.{table_in}
use Rattle.kr_classes_names.proofs.ClassNumbers.{is_other}
use Rattle.kr_types.proofs.Named.{line_there}
use Rattle.kr_classes_members.proofs.Upwards.{no_class_left}
use Rattle.kr_classes_table.proofs.Tables.{past}

-- ---- past the last class

module _ (t : Table) (c : ℕ) (beyond : length t.classes ≤ c) where
  line_past : line_of t c ≡ c ∷ []
  line_past = ap (λ o. c ∷ line_within (length t.classes) t (option_and_then (λ (d : Class). d.super) o)) (past t.classes c beyond) ∙ ap (λ cs. c ∷ cs) (no_class_left (length t.classes) t)

  pub fields_past : fields_of t c ≡ []
  fields_past = ap (λ cs. flat_map is_instance (flat_map (own_fields t) (reverse cs))) line_past ∙ ap (λ o. flat_map is_instance (flat_map (λ (d : Class). d.fields) (option_to_list o) ++ [])) (past t.classes c beyond)

  pub methods_past : (n : List ℕ) → method_named t c n ≡ None
  methods_past n =
      ap (λ cs. find (λ (m : Method). Rattle.std.specs.Prelude.bytes_eq m.name n) (flat_map (own_methods t) cs)) line_past
      ∙ ap (λ o. find (λ (m : Method). Rattle.std.specs.Prelude.bytes_eq m.name n) (flat_map (λ (d : Class). d.methods) (option_to_list o) ++ [])) (past t.classes c beyond)

  -- it is below itself alone
  pub below_past : (d : ℕ) → (d ≡ c → ⊥) → is_below t c d ≡ false
  below_past d other = ap (is_among d) line_past ∙ ap (λ b. b || false) (is_other d c other)

-- ---- no line leads past the last

outside : (n : ℕ) (cs : List ℕ) → All (λ c. c < n) cs → is_among n cs ≡ false
outside n [] h = refl
outside n (c ∷ cs) h =
    let b : c < n = All-head (λ d. d < n) c cs h in
    ap (λ x. x || is_among n cs) (is_other n c (λ e. absurd (omega (arith, e, b)))) ∙ outside n cs (All-tail (λ d. d < n) c cs h)

pub never_below : (files : List Arena) (c n : ℕ) → c < length (table_in files).classes → length (table_in files).classes ≤ n → is_below (table_in files) c n ≡ false
never_below files c n h l = outside n (line_of (table_in files) c) (All-weaker (λ d. d < length (table_in files).classes) (λ d. d < n) (λ d b. omega (arith, b, l)) (line_of (table_in files) c) (line_there (map root files) c h))
