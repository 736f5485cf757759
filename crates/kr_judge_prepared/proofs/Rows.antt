-- The fields of classes, row by row.
use Rattle.std.proofs.Common.{◌≡◌, ℕ, ◌+◌, ◌<◌, ◌≤◌, ◌⊎◌, inl, inr, List, [], ◌∷◌, ◌++◌, length, map, get_or, refl, sym, ap, ◌∙◌, subst, arith}
use Rattle.std.specs.Prelude.{Option, None, option_and_then, option_to_list, flat_map, reverse, All, Vec}
use Rattle.std.specs.List.{range_with_len}
use Rattle.std.specs.declared.alloc.Global.{Global}
use Rattle.std.proofs.Math.ListN.{get_or-map}
use Rattle.std.proofs.lemmas.List.{map_push, get_or_past}
use Rattle.std.proofs.lemmas.List.Elements.{All-push}
use Rattle.std.proofs.lemmas.List.FromFn.{get_or-map-range_with_len, length-map-range_with_len, map-range_with_len_more}
use Rattle.std.proofs.lemmas.Bool.{cases_lt}
use Rattle.kr_ast.specs.Arena.{Arena}
use Rattle.kr_classes_table.specs.Table.{Table, Class, class_at, line_within, is_instance, own_fields, fields_of}
use Rattle.kr_classes_table.specs.Table as table
use Rattle.kr_classes_members.specs.Kept.{AreMembers, class_count}
use Rattle.kr_classes_members.specs.Shown.{IsField, field_shown, table_in}
use Rattle.kr_classes_members.specs.declared.fields.Field.{Field}
use Rattle.kr_classes_members.specs.declared.members.Members.{Members}
use Rattle.kr_judge_prepared.specs.Fields.{AreFieldsOf, rows_of}
use Rattle.kr_classes_members.proofs.Upwards.{kept_count}
use Rattle.kr_classes_table.proofs.Tables.{past}
use Rattle.kr_laws_runs.proofs.Overriders.{no_line}

-- a number past the classes has no fields
no_fields : (t : Table) (c : ℕ) → length t.classes ≤ c → fields_of t c ≡ []
no_fields t c h =
    ap (λ (d : Option Class). flat_map is_instance (flat_map (own_fields t) (reverse (c ∷ line_within (length t.classes) t (option_and_then (λ (e : Class). e.super) d))))) none
    ∙ (ap (λ (cs : List ℕ). flat_map is_instance (flat_map (own_fields t) (reverse (c ∷ cs)))) (no_line (length t.classes) t)
    ∙ ap (λ (d : Option Class). flat_map is_instance (flat_map (λ (e : Class). e.fields) (option_to_list d) ++ [])) none)
  where
    none : class_at t.classes c ≡ None
    none = past t.classes c h

-- the fields of the first classes
pub record AreFirstFields (files : List Arena) (n : ℕ) (rows : List (List Field)) : Type 0 where
  pub stands : All (All (IsField files)) rows
  pub shown : map (map (field_shown files)) rows ≡ map (fields_of (table_in files)) (range_with_len 0 n)

pub none_first : (files : List Arena) → AreFirstFields files 0 []
none_first files = record { stands = λ i d h. absurd (omega (arith, h)); shown = refl }

-- one class more
pub one_more : (files : List Arena) (n : ℕ) (rows : List (Vec Field Global)) (row : Vec Field Global) → AreFirstFields files n (rows_of rows) → All (IsField files) row.items → map (field_shown files) row.items ≡ fields_of (table_in files) n
    → AreFirstFields files (n + 1) (rows_of (rows ++ row ∷ []))
one_more files n rows row h s e = record {
  stands = subst (All (All (IsField files))) (sym pushed) (All-push (All (IsField files)) (rows_of rows) row.items h.stands s);
  shown = ap (map (map (field_shown files))) pushed
      ∙ (map_push (map (field_shown files)) (rows_of rows) row.items
      ∙ (ap (λ (x : List (List table.Field)). x ++ map (field_shown files) row.items ∷ []) h.shown
      ∙ (ap (λ (x : List table.Field). map (fields_of (table_in files)) (range_with_len 0 n) ++ x ∷ []) e
      ∙ sym (map-range_with_len_more (fields_of (table_in files)) 0 n n (omega arith)))));
}
  where
    pushed : rows_of (rows ++ row ∷ []) ≡ rows_of rows ++ row.items ∷ []
    pushed = map_push (λ (r : Vec Field Global). r.items) rows row

-- those of all classes
pub all_rows : (files : List Arena) (m : Members) (n : ℕ) (rows : List (List Field)) → AreMembers files m → n ≡ class_count m → AreFirstFields files n rows → AreFieldsOf files rows
all_rows files m n rows h e r = record { stands = r.stands; shown = each }
  where
    all : n ≡ length (table_in files).classes
    all = e ∙ kept_count files m h

    at : (c : ℕ) → map (field_shown files) (get_or rows c []) ≡ get_or (map (fields_of (table_in files)) (range_with_len 0 n)) c []
    at c = sym (get_or-map (map (field_shown files)) rows c []) ∙ ap (λ (x : List (List table.Field)). get_or x c []) r.shown

    chosen : (c : ℕ) → (c < n) ⊎ (n ≤ c) → map (field_shown files) (get_or rows c []) ≡ fields_of (table_in files) c
    chosen c (inl l) = at c ∙ get_or-map-range_with_len (fields_of (table_in files)) 0 n c c [] l (omega arith)
    chosen c (inr g) =
        let none : fields_of (table_in files) c ≡ [] = no_fields (table_in files) c (omega (arith, g, all)) in
        let long : length (map (fields_of (table_in files)) (range_with_len 0 n)) ≤ c = omega (arith, g, length-map-range_with_len (fields_of (table_in files)) 0 n) in
        at c ∙ get_or_past (map (fields_of (table_in files)) (range_with_len 0 n)) c [] long ∙ sym none

    each : (c : ℕ) → map (field_shown files) (get_or rows c []) ≡ fields_of (table_in files) c
    each c = chosen c (cases_lt c n)

-- ---- the fields of one class

pub all_at : (files : List Arena) (rows : List (List Field)) (c : ℕ) → AreFieldsOf files rows → All (IsField files) (get_or rows c [])
all_at files rows c h = go (cases_lt c (length rows))
  where
    go : (c < length rows) ⊎ (length rows ≤ c) → All (IsField files) (get_or rows c [])
    go (inl l) = h.stands c [] l
    go (inr g) = subst (All (IsField files)) (sym (get_or_past rows c [] g)) (λ i d l. absurd (omega (arith, l)))
