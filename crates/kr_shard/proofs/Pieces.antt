-- Rows of shards, one shard after another.
use Rattle.std.proofs.Common.{◌≡◌, ℕ, zero, suc, ◌+◌, ◌-◌, ◌^◌, List, [], ◌∷◌, ◌++◌, append_assoc, map, min, take, drop, refl, sym, ap, ◌∙◌, arith}
use Rattle.std.specs.Prelude.{Option, Some, None, slice_get}
use Rattle.std.specs.List.{sum_by}
use Rattle.std.proofs.lemmas.List.Sums.{sum_by-cons}
use Rattle.kr_base.specs.Causes.{capped}
use Rattle.kr_report.specs.Reports.{lines}
use Rattle.kr_shard.specs.ReadRows.{RowLines}
use Rattle.kr_shard.specs.Found.{bytes_in, count_in, merged_by}

-- ---- how many

pub sum_next : (all : List RowLines) (i : ℕ) (rows : RowLines) → slice_get all i ≡ Some rows → sum_by count_in (take (i + 1) all) ≡ sum_by count_in (take i all) + rows.count
sum_next [] i rows e = absurd (cc (e))
sum_next (x ∷ all) zero rows e =
    let same : x ≡ rows = cc (e) in
    sum_by-cons count_in x [] ∙ on_zero x.count rows.count (ap (λ (r : RowLines). r.count) same)
  where
    on_zero : (a b : ℕ) → a ≡ b → a + 0 ≡ 0 + b
    on_zero a b h = omega (arith, h)
sum_next (x ∷ all) (suc i) rows e =
    let next : suc i + 1 ≡ suc (i + 1) = omega arith in
    let later = sum_next all i rows e in
    let one = sum_by-cons count_in x (take (i + 1) all) in
    let other = sum_by-cons count_in x (take i all) in
    ap (λ (k : ℕ). sum_by count_in (take k (x ∷ all))) next ∙ omega (arith, later, one, other)

pub capped_more : (before now sum next more : ℕ) → before ≡ capped sum → now ≡ min (before + more) (2 ^ 64 - 1) → next ≡ sum + more → now ≡ capped next
capped_more before now sum next more p q e = omega arith

-- ---- their bytes

abbrev pub all_bytes : List RowLines → List ℕ
all_bytes all = lines (map bytes_in all)

drop_next : (all : List RowLines) (i : ℕ) (rows : RowLines) → slice_get all i ≡ Some rows → drop i all ≡ rows ∷ drop (i + 1) all
drop_next [] i rows e = absurd (cc (e))
drop_next (x ∷ all) zero rows e = let same : x ≡ rows = cc (e) in ap (λ (r : RowLines). r ∷ all) same
drop_next (x ∷ all) (suc i) rows e =
    let next : suc i + 1 ≡ suc (i + 1) = omega arith in
    drop_next all i rows e ∙ ap (λ (k : ℕ). rows ∷ drop k (x ∷ all)) (sym next)

pub sent_more : (all : List RowLines) (i : ℕ) (rows : RowLines) (sent : List ℕ) → slice_get all i ≡ Some rows → all_bytes all ≡ sent ++ all_bytes (drop i all)
    → all_bytes all ≡ (sent ++ rows.bytes) ++ all_bytes (drop (i + 1) all)
sent_more all i rows sent e h =
    h ∙ (ap (λ (l : List RowLines). sent ++ all_bytes l) (drop_next all i rows e) ∙ sym (append_assoc sent rows.bytes (all_bytes (drop (i + 1) all))))

-- ---- the answer

pub rows_are : (rows : List RowLines) (tried : ℕ) (key : Option (List ℕ)) → (merged_by rows tried key).rows ≡ map bytes_in rows
rows_are rows tried None = refl
rows_are rows tried (Some key) = refl
