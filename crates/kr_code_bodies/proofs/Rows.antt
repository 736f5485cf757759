-- Rows that grow by a column, and tables that grow by a row.
use Rattle.std.proofs.Common.{◌≡◌, sym, ap, ◌∙◌, subst, ℕ, ◌+◌, ◌<◌, ◌≤◌, List, [], ◌∷◌, ◌++◌, length, map, get_or, arith, length-append, ◌⊎◌, inl, inr}
use Rattle.std.proofs.lemmas.List.{get_or_append_left, get_or_past, map-append}
use Rattle.std.proofs.Math.Seq.{get_or-append_seam}
use Rattle.std.specs.declared.vec.Vec.{Vec}
use Rattle.std.specs.declared.alloc.Global.{Global}
use Rattle.kr_code.specs.Tables.{row_items}
use Rattle.kr_code_bodies.specs.Rows.{AreRows, IsRow}

-- this holds of the first n columns, and there are no more yet
pub record IsFront {A : Type 0} (none : A) (P : ℕ → A → Type 0) (n : ℕ) (row : List A) : Type 0 where
  pub count : length row ≡ n
  pub each : (c : ℕ) → c < n → P c (get_or row c none)

pub no_columns : {A : Type 0} (none : A) (P : ℕ → A → Type 0) (row : List A) → row ≡ [] → IsFront none P 0 row
no_columns none P row e = record { count = ap length e; each = λ c h. absurd (omega (arith, h)) }

pub column_more : {A : Type 0} (none : A) (P : ℕ → A → Type 0) (n : ℕ) (row new : List A) (x : A) → IsFront none P n row → new ≡ row ++ x ∷ [] → P n x → IsFront none P (n + 1) new
column_more {A = A} none P n row new x front e h = record {
  count = ap length e ∙ length-append row (x ∷ []) ∙ ap (λ k. k + 1) front.count;
  each = λ c l. subst (λ (ys : List A). P c (get_or ys c none)) (sym e) (go c (let d : (c < n) ⊎ (c ≡ n) = grind (arith, l) in d));
}
  where
    go : (c : ℕ) → (c < n) ⊎ (c ≡ n) → P c (get_or (row ++ x ∷ []) c none)
    go c (inl l) = subst (λ (y : A). P c y) (sym (get_or_append_left row (x ∷ []) none c (omega (arith, l, front.count)))) (front.each c l)
    go c (inr s) =
        let at : c ≡ length row = s ∙ sym front.count in
        subst (λ (k : ℕ). P k (get_or (row ++ x ∷ []) k none)) (sym at) (subst (λ (y : A). P (length row) y) (sym (get_or-append_seam row x [] none)) (subst (λ (k : ℕ). P k x) (sym front.count) h))

-- later columns matter only for what isn't there
pub whole_row : {A : Type 0} (none : A) (P : ℕ → A → Type 0) (n : ℕ) (row : List A) → IsFront none P n row → ((c : ℕ) → n ≤ c → P c none) → IsRow none P row
whole_row {A = A} none P n row front behind c = elim (let d : (c < n) ⊎ (n ≤ c) = grind arith in d) [
  | inl l ↦ front.each c l
  | inr l ↦ subst (λ (y : A). P c y) (sym (get_or_past row c none (omega (arith, l, front.count)))) (behind c l)
]

pub no_row : {A : Type 0} (none : A) (P : ℕ → A → Type 0) (row : List A) → row ≡ [] → ((c : ℕ) → P c none) → IsRow none P row
no_row none P row e behind = whole_row none P 0 row (no_columns none P row e) (λ c l. behind c)

-- ---- tables

-- the first rows of a table
abbrev pub AreFront : {A : Type 0} → A → (ℕ → ℕ → A → Type 0) → ℕ → List (Vec A Global) → Type 0
AreFront {A} none P n rows = IsFront {A = List A} [] (λ k row. IsRow none (P k) row) n (map row_items rows)

pub row_more : {A : Type 0} (none : A) (P : ℕ → ℕ → A → Type 0) (n : ℕ) (rows new : List (Vec A Global)) (row : Vec A Global) → AreFront none P n rows → new ≡ rows ++ row ∷ [] → IsRow none (P n) row.items → AreFront none P (n + 1) new
row_more {A = A} none P n rows new row front e h =
    column_more {A = List A} [] (λ k row. IsRow none (P k) row) n (map row_items rows) (map row_items new) row.items front (ap (map row_items) e ∙ map-append row_items rows (row ∷ [])) h

pub whole_table : {A : Type 0} (none : A) (P : ℕ → ℕ → A → Type 0) (n : ℕ) (rows : List (Vec A Global)) → AreFront none P n rows → ((k c : ℕ) → n ≤ k → P k c none) → AreRows none P rows
whole_table {A = A} none P n rows front behind = whole_row {A = List A} [] (λ k row. IsRow none (P k) row) n (map row_items rows) front (λ k l c. behind k c l)
