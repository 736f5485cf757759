-- Rows of a listing, as a shard's text has them.
use Rattle.std.proofs.Common.{◌≡◌, ℕ, suc, ◌+◌, ◌-◌, ◌<◌, ◌≤◌, ◌^◌, Bool, true, false, ◌&&◌, not, List, [], ◌∷◌, ◌++◌, map, length, refl, sym, ap, ◌∙◌, subst, inl, inr, arith, lit<, append_assoc, append-nil, Option, Some, None}
use Rattle.std.specs.Prelude.{codes, flat_map, if◌then◌else◌, option_and_then}
use Rattle.std.specs.List.{before_first, after_first}
use Rattle.kr_base.specs.declared.entry.Mark.{Mark}
use Rattle.kr_base.specs.declared.entry.Mark.TheVariants.{Valid, Invalid, Spent}
use Rattle.kr_base.specs.declared.entry.Entry.{Entry}
use Rattle.kr_base.specs.declared.span.Bound.{Bound}
use Rattle.kr_base.specs.declared.span.Bound.TheVariants.{At, End}
use Rattle.kr_base.specs.Bounds.{less}
use Rattle.kr_base.specs.Cuts.{Before, cut_text}
use Rattle.kr_base.specs.Entries.{AllAfter, Ascends, IsAmong, is_spent, is_within, through_spent, within}
use Rattle.kr_base.specs.Parsing.{cut_of}
use Rattle.kr_base.proofs.Orders.{before_from_test, test_from_before, test_transitive}
use Rattle.kr_base.proofs.Readings.{reading}
use Rattle.kr_mean.specs.Problem.{Problem}
use Rattle.kr_mean.specs.declared.row.Row.{Row}
use Rattle.kr_mean.specs.declared.kind.Verdict.{Verdict}
use Rattle.kr_report.specs.Reports.{lines, rows_in, rows_of_mark, spent_key, spent_key_of}
use Rattle.kr_report.specs.Texts.{row_text, structure_text, verdict_text}
use Rattle.kr_text.specs.Splitting.{IsWithout, ended, is_empty, is_space}
use Rattle.kr_shard.specs.Shards as reading_rows
use Rattle.kr_shard.specs.Shards.{KeyedLine, and_rows, key_in, last_key, row_bytes, row_key}
use Rattle.kr_shard.specs.Stages.{line_of}
use Rattle.kr_shard_laws.specs.Listings.{IsCut, IsListable, IsRowAt}
use Rattle.kr_shard_laws.proofs.Bytes.{AreLines, after_is, before_is, high_cut, without_append, without_high}

-- a cut's text is read as it
pub cut_back : (numbers : List ℕ) → 0 < length numbers → IsCut numbers → cut_of (cut_text numbers) ≡ Some numbers
cut_back numbers some cut = (reading (cut_text numbers) numbers).complete (record { some = some; small = cut.small; text = refl }, cut.few)

-- ---- rows as lines

unfoldable pub row_line : Problem → Row → List ℕ
row_line problem row = cut_text row.key ++ 32 ∷ structure_text problem row.structure

pub row_is : (problem : Problem) (row : Row) → row.verdict ≡ None → row_text problem row ≡ ended (row_line problem row)
unfolding row_line
row_is problem row e =
    ap (λ (v : Option Verdict). cut_text row.key ++ codes " " ++ verdict_text problem.program.table.headings v ++ structure_text problem row.structure ++ codes "\n") e
    ∙ (ap (λ (t : List ℕ). t ++ structure_text problem row.structure ++ codes "\n") (append-nil (cut_text row.key ++ codes " "))
    ∙ ap (λ (t : List ℕ). t ++ codes "\n") (append_assoc (cut_text row.key) (codes " ") (structure_text problem row.structure)))

unfoldable pub keyed_by : Problem → Mark Row → List KeyedLine → List KeyedLine
keyed_by problem (Valid row) rest = record { key = row.key; line = row_line problem row } ∷ rest
keyed_by problem Invalid rest = rest
keyed_by problem Spent rest = rest

unfoldable pub keyed : Problem → List (Entry Row) → List KeyedLine
keyed problem [] = []
keyed problem (e ∷ es) = keyed_by problem e.mark (keyed problem es)

-- ---- entries that are listed

unfoldable pub AreListable : Problem → List (Entry Row) → Type 0
AreListable problem [] = Unit {0}
AreListable problem (e ∷ es) = IsListable problem e × AreListable problem es

pub are_listable : (problem : Problem) (es : List (Entry Row)) → ((e : Entry Row) → IsAmong e es → IsListable problem e) → AreListable problem es
unfolding AreListable
are_listable problem [] h = tt
are_listable problem (e ∷ es) h = (h e (inl refl), are_listable problem es (λ f i. h f (inr i)))

pub within_listable : (problem : Problem) (a b : Bound) (es : List (Entry Row)) → AreListable problem es → AreListable problem (within a b es)
unfolding AreListable
within_listable problem a b [] h = tt
within_listable problem a b (e ∷ es) h = go (is_within a b e.key) (within_listable problem a b es h.1)
  where
    go : (t : Bool) → AreListable problem (within a b es) → AreListable problem (if t then e ∷ within a b es else within a b es)
    go true rest = (h.0, rest)
    go false rest = rest

pub through_listable : (problem : Problem) (es : List (Entry Row)) → AreListable problem es → AreListable problem (through_spent es)
unfolding AreListable
through_listable problem [] h = tt
through_listable problem (e ∷ es) h = (h.0, go (is_spent e.mark) (through_listable problem es h.1))
  where
    go : (t : Bool) → AreListable problem (through_spent es) → AreListable problem (if t then [] else through_spent es)
    go true rest = tt
    go false rest = rest

-- their keys are above a cut, each above the one before, and not above a bound
unfoldable pub IsRun : Bound → List ℕ → List (Entry Row) → Type 0
IsRun upto last [] = Unit {0}
IsRun upto last (e ∷ es) = Before last e.key × (less upto (At e.key) ≡ false) × IsRun upto e.key es

pub run_after : (upto : Bound) (last k : List ℕ) (es : List (Entry Row)) → AllAfter k es → IsRun upto last es → IsRun upto k es
unfolding IsRun
run_after upto last k [] after h = tt
run_after upto last k (e ∷ es) after h = (after.0, h.1, h.2)

pub run_lower : (upto : Bound) (low last : List ℕ) (es : List (Entry Row)) → Before low last → IsRun upto last es → IsRun upto low es
unfolding IsRun
run_lower upto low last [] below h = tt
run_lower upto low last (e ∷ es) below h =
    (before_from_test low e.key (test_transitive low last e.key (test_from_before low last below) (test_from_before last e.key h.0)), h.1, h.2)

after_within : (k : List ℕ) (a b : Bound) (es : List (Entry Row)) → AllAfter k es → AllAfter k (within a b es)
after_within k a b [] h = tt
after_within k a b (e ∷ es) h = go (is_within a b e.key) (after_within k a b es h.1)
  where
    go : (t : Bool) → AllAfter k (within a b es) → AllAfter k (if t then e ∷ within a b es else within a b es)
    go true rest = (h.0, rest)
    go false rest = rest

both_true : (a b : Bool) → (a && not b) ≡ true → (a ≡ true) × (b ≡ false)
both_true true false h = (refl, refl)
both_true true true h = absurd (cc (h))
both_true false b h = absurd (cc (h))

pub run_within : (after : List ℕ) (upto : Bound) (es : List (Entry Row)) → Ascends es → IsRun upto after (within (At after) upto es)
unfolding IsRun less
run_within after upto [] h = tt
run_within after upto (e ∷ es) h = go (is_within (At after) upto e.key) refl (run_within after upto es h.1)
  where
    go : (t : Bool) → is_within (At after) upto e.key ≡ t → IsRun upto after (within (At after) upto es)
        → IsRun upto after (if t then e ∷ within (At after) upto es else within (At after) upto es)
    go true is rest =
        let both = both_true (less (At after) (At e.key)) (less upto (At e.key)) is in
        (before_from_test after e.key both.0, both.1, run_after upto after e.key (within (At after) upto es) (after_within e.key (At after) upto es h.0) rest)
    go false is rest = rest

pub run_through : (upto : Bound) (last : List ℕ) (es : List (Entry Row)) → IsRun upto last es → IsRun upto last (through_spent es)
unfolding IsRun
run_through upto last [] h = tt
run_through upto last (e ∷ es) h = (h.0, h.1, go (is_spent e.mark) (run_through upto e.key es h.2))
  where
    go : (t : Bool) → IsRun upto e.key (through_spent es) → IsRun upto e.key (if t then [] else through_spent es)
    go true rest = tt
    go false rest = rest

-- ---- a row is read

less_here : (j k : List ℕ) → Before j k → less (At j) (At k) ≡ true
unfolding less
less_here j k b = test_from_before j k b

within_true : (last : List ℕ) (upto : Bound) (key : List ℕ) → Before last key → less upto (At key) ≡ false → is_within (At last) upto key ≡ true
within_true last upto key below h =
    let above : less (At last) (At key) ≡ true = less_here last key below in
    rw (above, h) refl

pub key_read : (upto : Bound) (last key : List ℕ) → 0 < length key → IsCut key → Before last key → less upto (At key) ≡ false → key_in upto last (cut_text key) ≡ Some key
key_read upto last key some cut below h =
    ap (option_and_then (λ (k : List ℕ). if is_within (At last) upto k then Some k else None)) (cut_back key some cut)
    ∙ ap (λ (t : Bool). if t then Some key else None) (within_true last upto key below h)

not_empty : (text : List ℕ) → 0 < length text → is_empty text ≡ false
not_empty [] h = absurd (omega arith)
not_empty (b ∷ bs) h = refl

row_read : (problem : Problem) (upto : Bound) (last : List ℕ) (row : Row) → 0 < length row.key → IsCut row.key → Before last row.key → less upto (At row.key) ≡ false
    → 0 < length (structure_text problem row.structure) → row_key upto last (row_line problem row) ≡ Some row.key
unfolding row_line
row_read problem upto last row some cut below h has =
    let text = structure_text problem row.structure in
    let parts = without_high 32 (cut_text row.key) (lit< tt) (high_cut row.key cut.small) in
    ap (λ (t : List ℕ). if is_empty t then None else key_in upto last (before_first is_space (row_line problem row))) (after_is 32 (cut_text row.key) text parts)
    ∙ (ap (λ (b : Bool). if b then None else key_in upto last (before_first is_space (row_line problem row))) (not_empty text has)
    ∙ (ap (key_in upto last) (before_is 32 (cut_text row.key) text parts) ∙ key_read upto last row.key some cut below h))

-- the rows are those of the entries, where the line after them is no row
pub rows_read : (problem : Problem) (upto : Bound) (line : List ℕ) (es : List (Entry Row)) (last : List ℕ) → AreListable problem es → IsRun upto last es
    → ((k : List ℕ) → row_key upto k line ≡ None) → reading_rows.rows_in upto (map line_of (keyed problem es) ++ line ∷ []) last ≡ keyed problem es
unfolding keyed keyed_by AreListable IsRun
rows_read problem upto line [] last h run none = ap (λ (o : Option (List ℕ)). and_rows o line (reading_rows.rows_in upto [])) (none last)
rows_read problem upto line (e ∷ es) last h run none = go e.mark h.0.row (λ k later. rows_read problem upto line es k h.1 later none)
  where
    go : (m : Mark Row) → IsRowAt problem e.key m → ((k : List ℕ) → IsRun upto k es → reading_rows.rows_in upto (map line_of (keyed problem es) ++ line ∷ []) k ≡ keyed problem es)
        → reading_rows.rows_in upto (map line_of (keyed_by problem m (keyed problem es)) ++ line ∷ []) last ≡ keyed_by problem m (keyed problem es)
    go (Valid row) at rest =
        let same : e.key ≡ row.key = sym at.0 in
        let found : row_key upto last (row_line problem row) ≡ Some row.key =
        row_read problem upto last row (subst (λ (k : List ℕ). 0 < length k) same h.0.some) (subst IsCut same h.0.cut)
        (subst (λ (k : List ℕ). Before last k) same run.0) (subst (λ (k : List ℕ). less upto (At k) ≡ false) same run.1) at.2 in
        ap (λ (o : Option (List ℕ)). and_rows o (row_line problem row) (reading_rows.rows_in upto (map line_of (keyed problem es) ++ line ∷ []))) found
        ∙ ap (λ (rs : List KeyedLine). record { key = row.key; line = row_line problem row } ∷ rs) (rest row.key (subst (λ (k : List ℕ). IsRun upto k es) same run.2))
    go Invalid at rest = rest last (run_lower upto last e.key es run.0 run.2)
    go Spent at rest = rest last (run_lower upto last e.key es run.0 run.2)

-- ---- their bytes, their number, their lines

pub keyed_bytes : (problem : Problem) (es : List (Entry Row)) → AreListable problem es → row_bytes (keyed problem es) ≡ lines (map (row_text problem) (rows_in es))
unfolding keyed keyed_by AreListable
keyed_bytes problem [] h = refl
keyed_bytes problem (e ∷ es) h = go e.mark h.0.row (keyed_bytes problem es h.1)
  where
    go : (m : Mark Row) → IsRowAt problem e.key m → row_bytes (keyed problem es) ≡ lines (map (row_text problem) (rows_in es))
        → row_bytes (keyed_by problem m (keyed problem es)) ≡ lines (map (row_text problem) (rows_of_mark m ++ rows_in es))
    go (Valid row) at rest = ap (λ (t : List ℕ). t ++ row_bytes (keyed problem es)) (sym (row_is problem row at.1)) ∙ ap (λ (t : List ℕ). row_text problem row ++ t) rest
    go Invalid at rest = rest
    go Spent at rest = rest

pub keyed_count : (problem : Problem) (es : List (Entry Row)) → length (keyed problem es) ≡ length (rows_in es)
unfolding keyed keyed_by
keyed_count problem [] = refl
keyed_count problem (e ∷ es) = go e.mark (keyed_count problem es)
  where
    go : (m : Mark Row) → length (keyed problem es) ≡ length (rows_in es) → length (keyed_by problem m (keyed problem es)) ≡ length (rows_of_mark m ++ rows_in es)
    go (Valid row) rest = ap suc rest
    go Invalid rest = rest
    go Spent rest = rest

pub keyed_lines : (problem : Problem) (es : List (Entry Row)) → AreListable problem es → AreLines (map line_of (keyed problem es))
unfolding keyed keyed_by AreListable AreLines row_line
keyed_lines problem [] h = tt
keyed_lines problem (e ∷ es) h = go e.mark h.0.row (keyed_lines problem es h.1)
  where
    go : (m : Mark Row) → IsRowAt problem e.key m → AreLines (map line_of (keyed problem es)) → AreLines (map line_of (keyed_by problem m (keyed problem es)))
    go (Valid row) at rest =
        let cut : IsCut row.key = subst IsCut (sym at.0) h.0.cut in
        (without_append 10 (cut_text row.key) (32 ∷ structure_text problem row.structure) (without_high 10 (cut_text row.key) (lit< tt) (high_cut row.key cut.small)) (refl, at.3), rest)
    go Invalid at rest = rest
    go Spent at rest = rest

pub few_rows : (es : List (Entry Row)) → length (rows_in es) ≤ length es
few_rows [] = omega arith
few_rows (e ∷ es) = go e.mark (few_rows es)
  where
    go : (m : Mark Row) → length (rows_in es) ≤ length es → length (rows_of_mark m ++ rows_in es) ≤ suc (length es)
    go (Valid row) rest = omega arith
    go Invalid rest = omega arith
    go Spent rest = omega arith

-- ---- the spent key

pub spent_after : (problem : Problem) (upto : Bound) (es : List (Entry Row)) (last k : List ℕ) → AreListable problem (through_spent es) → IsRun upto last (through_spent es)
    → spent_key (through_spent es) ≡ Some k → (0 < length k) × IsCut k × Before (last_key last (keyed problem (through_spent es))) k × (less upto (At k) ≡ false)
unfolding keyed keyed_by AreListable IsRun
spent_after problem upto [] last k h run is = absurd (cc (is))
spent_after problem upto (e ∷ es) last k h run is = go e.mark h.0.row h.1 run.2 is (λ low listed later found. spent_after problem upto es low k listed later found)
  where
    go : (m : Mark Row) → IsRowAt problem e.key m → AreListable problem (if is_spent m then [] else through_spent es) → IsRun upto e.key (if is_spent m then [] else through_spent es)
        → spent_key_of e.key m (spent_key (if is_spent m then [] else through_spent es)) ≡ Some k
        → ((low : List ℕ) → AreListable problem (through_spent es) → IsRun upto low (through_spent es) → spent_key (through_spent es) ≡ Some k
        → (0 < length k) × IsCut k × Before (last_key low (keyed problem (through_spent es))) k × (less upto (At k) ≡ false))
        → (0 < length k) × IsCut k × Before (last_key last (keyed_by problem m (keyed problem (if is_spent m then [] else through_spent es)))) k × (less upto (At k) ≡ false)
    go (Valid row) at listed later found rest = rest row.key listed (subst (λ (j : List ℕ). IsRun upto j (through_spent es)) (sym at.0) later) found
    go Invalid at listed later found rest = rest last listed (run_lower upto last e.key (through_spent es) run.0 later) found
    go Spent at listed later found rest =
        let same : e.key ≡ k = cc (found) in
        (subst (λ (j : List ℕ). 0 < length j) same h.0.some, subst IsCut same h.0.cut, subst (λ (j : List ℕ). Before last j) same run.0, subst (λ (j : List ℕ). less upto (At j) ≡ false) same run.1)
