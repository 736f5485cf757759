-- The lines of rows, and what is read of them.
use Rattle.std.proofs.Common.{◌≡◌, ℕ, zero, suc, ◌+◌, ◌<◌, List, [], ◌∷◌, ◌++◌, Bool, true, false, length, map, take, refl, sym, ap, ◌∙◌, subst, arith, Option, Some, None}
use Rattle.std.specs.Prelude.{filter, flat_map, if◌then◌else◌, is_some, not, option_and_then}
use Rattle.std.specs.Option.{option_map}
use Rattle.std.specs.List.{before_first, after_first}
use Rattle.kr_base.specs.declared.span.Bound.{Bound}
use Rattle.kr_base.specs.declared.entry.Entry.{Entry}
use Rattle.kr_base.specs.declared.entry.Mark.{Mark}
use Rattle.kr_base.specs.declared.entry.Mark.TheVariants.{Valid, Invalid, Spent}
use Rattle.kr_base.specs.Entries.{entries_in, is_spent, is_valid, is_within, through_spent, within}
use Rattle.kr_base.specs.Parsing.{cut_of}
use Rattle.kr_mean.specs.Problem.{Problem}
use Rattle.kr_mean.specs.declared.row.Row.{Row}
use Rattle.kr_report.specs.Reports.{is_failing, last_key, lines, rows_in, rows_of_mark, spent_key, spent_key_of}
use Rattle.kr_report.specs.Texts.{row_text, structure_text}
use Rattle.kr_survey.specs.Listings.{spent_in}
use Rattle.kr_text.specs.Splitting.{IsWithout, ended, is_empty, is_space}
use Rattle.kr_pool_desk.specs.Short.{AreShortKeys}
use Rattle.kr_trace.specs.declared.row.Row.{Row as ReadRow}
use Rattle.kr_trace.specs.Words.{rest_passes}
use Rattle.korat_top_laws.specs.Honest.{valid_keys}
use Rattle.korat_top_laws.specs.Listings.{AreLinesOf, IsLineOf, read_of}
use Rattle.korat_top_laws.specs.Printed.{IsShown}
use Rattle.korat_top_laws.specs.More.{last_of}
use Rattle.korat_top_laws.specs.RowLines.{IsWritable, row_line}
use Rattle.korat_top_laws.proofs.RowLines.{rows_back}
use Rattle.korat_top_laws.specs.Readable.{AreReadable, IsReadableRow}
use Rattle.korat_top_laws.proofs.Shown.{shown}

-- ---- entries of a span

readable_within : (problem : Problem) (tests : Bool) (a b : Bound) (es : List (Entry Row)) → AreReadable problem tests es → AreReadable problem tests (within a b es)
readable_within problem tests a b [] h = tt
readable_within problem tests a b (e ∷ es) h =
    elim (is_within a b e.key) as (λ t. AreReadable problem tests (if t then e ∷ within a b es else within a b es)) [
      | true ↦ (h.0, readable_within problem tests a b es h.1)
      | false ↦ readable_within problem tests a b es h.1
    ]

readable_through : (problem : Problem) (tests : Bool) (es : List (Entry Row)) → AreReadable problem tests es → AreReadable problem tests (through_spent es)
readable_through problem tests [] h = tt
readable_through problem tests (e ∷ es) h =
    elim (is_spent e.mark) as (λ t. AreReadable problem tests (e ∷ (if t then [] else through_spent es))) [ true ↦ (h.0, tt) | false ↦ (h.0, readable_through problem tests es h.1) ]

pub readable_in : (problem : Problem) (tests : Bool) (a b : Bound) (es : List (Entry Row)) → AreReadable problem tests es → AreReadable problem tests (entries_in a b es)
readable_in problem tests a b es h = readable_through problem tests (within a b es) (readable_within problem tests a b es h)

pub keys_short : (problem : Problem) (tests : Bool) (es : List (Entry Row)) → AreReadable problem tests es → AreShortKeys es
keys_short problem tests [] h = tt
keys_short problem tests (e ∷ es) h = (h.0.short, keys_short problem tests es h.1)

-- ---- rows

pub record IsReadRow (problem : Problem) (tests : Bool) (row : Row) : Type 0 where
  pub shown : IsShown row.key
  pub tested : is_some row.verdict ≡ tests
  pub writable : IsWritable problem.program.table.headings row.verdict
  pub some : 0 < length (structure_text problem row.structure)
  pub one_line : IsWithout 10 (structure_text problem row.structure)

abbrev pub AreReadRows : Problem → Bool → List Row → Type 0
AreReadRows problem tests [] = Unit {0}
AreReadRows problem tests (row ∷ rows) = IsReadRow problem tests row × AreReadRows problem tests rows

pub rows_read : (problem : Problem) (tests : Bool) (es : List (Entry Row)) → AreReadable problem tests es → AreReadRows problem tests (rows_in es)
rows_read problem tests [] h = tt
rows_read problem tests (e ∷ es) h = one e.mark (rows_read problem tests es h.1) h.0.row
  where
    one : (m : Mark Row) → AreReadRows problem tests (rows_in es) → IsReadableRow problem tests e.key m → AreReadRows problem tests (rows_of_mark m ++ rows_in es)
    one (Valid row) rest r =
        (record { shown = subst IsShown (sym r.0) (shown e.key h.0.some h.0.short); tested = r.1; writable = r.2; some = r.3; one_line = r.4 }, rest)
    one Invalid rest r = rest
    one Spent rest r = rest

pub taken_read : (problem : Problem) (tests : Bool) (n : ℕ) (rows : List Row) → AreReadRows problem tests rows → AreReadRows problem tests (take n rows)
taken_read problem tests zero rows h = tt
taken_read problem tests (suc n) [] h = tt
taken_read problem tests (suc n) (row ∷ rows) h = (h.0, taken_read problem tests n rows h.1)

-- ---- lines

abbrev pub line : Problem → Row → List ℕ
line problem row = row_line problem.program.table.headings row.key row.verdict (structure_text problem row.structure)

-- what is read of a row's line in a listing of all rows, and beside a key that ends it
abbrev pub judged : Row → ReadRow
judged row = record { key = row.key; passes = not (is_failing row.verdict) }

abbrev pub unjudged : Row → ReadRow
unjudged row = record { key = row.key; passes = true }

line_is : (problem : Problem) (tests : Bool) (row : Row) → IsReadRow problem tests row → IsLineOf tests (judged row) (line problem row)
line_is problem tests row h =
    subst (λ (t : Bool). IsLineOf t (judged row) (line problem row)) h.tested (rows_back problem.program.table.headings row.key row.verdict (structure_text problem row.structure) h.shown h.writable h.some h.one_line)

pub lines_judged : (problem : Problem) (tests : Bool) (rows : List Row) → AreReadRows problem tests rows → AreLinesOf tests (map judged rows) (map (line problem) rows)
lines_judged problem tests [] h = tt
lines_judged problem tests (row ∷ rows) h = (line_is problem tests row h.0, lines_judged problem tests rows h.1)

abbrev read_by : Bool → Option Bool → Option (List ℕ) → Option ReadRow
read_by empty passes key = if empty then None else option_and_then (λ p. option_map (λ k. record { key = k; passes = p }) key) passes

read_key : (empty : Bool) (passes : Option Bool) (key : Option (List ℕ)) (row : ReadRow) → read_by empty passes key ≡ Some row → read_by empty (Some true) key ≡ Some (record { key = row.key; passes = true })
read_key true passes key row h = absurd (cc (h))
read_key false None key row h = absurd (cc (h))
read_key false (Some p) None row h = absurd (cc (h))
read_key false (Some p) (Some k) row h =
    let same : record { key = k; passes = p } ≡ row = cc (h) in
    ap (λ (r : ReadRow). Some (record { key = r.key; passes = true })) same

line_unjudged : (tests : Bool) (row : Row) (line : List ℕ) → IsLineOf tests (judged row) line → IsLineOf false (unjudged row) line
line_unjudged tests row line h = record {
  one_line = h.one_line;
  no_last = h.no_last;
  read = read_key (is_empty (after_first is_space line)) (rest_passes tests (after_first is_space line)) (cut_of (before_first is_space line)) (judged row) h.read;
}

pub lines_unjudged : (problem : Problem) (tests : Bool) (rows : List Row) → AreReadRows problem tests rows → AreLinesOf false (map unjudged rows) (map (line problem) rows)
lines_unjudged problem tests [] h = tt
lines_unjudged problem tests (row ∷ rows) h = (line_unjudged tests row (line problem row) (line_is problem tests row h.0), lines_unjudged problem tests rows h.1)

pub text_is : (problem : Problem) (rows : List Row) → lines (map (row_text problem) rows) ≡ flat_map ended (map (line problem) rows)
text_is problem [] = refl
text_is problem (row ∷ rows) = ap (λ (t : List ℕ). row_text problem row ++ t) (text_is problem rows)

-- ---- keys

abbrev pub keys : List Row → List (List ℕ)
keys rows = map (λ row. row.key) rows

pub judged_keys : (rows : List Row) → (read_of (map judged rows)).keys ≡ keys rows
judged_keys [] = refl
judged_keys (row ∷ rows) = ap (λ (ks : List (List ℕ)). row.key ∷ ks) (judged_keys rows)

pub unjudged_keys : (rows : List Row) → (read_of (map unjudged rows)).keys ≡ keys rows
unjudged_keys [] = refl
unjudged_keys (row ∷ rows) = ap (λ (ks : List (List ℕ)). row.key ∷ ks) (unjudged_keys rows)

pub valid_are : (problem : Problem) (tests : Bool) (es : List (Entry Row)) → AreReadable problem tests es → valid_keys es ≡ keys (rows_in es)
valid_are problem tests [] h = refl
valid_are problem tests (e ∷ es) h = one e.mark (valid_are problem tests es h.1) h.0.row
  where
    one : (m : Mark Row) → valid_keys es ≡ keys (rows_in es) → IsReadableRow problem tests e.key m
        → map (λ (x : Entry Row). x.key) (if is_valid m then e ∷ filter (λ (x : Entry Row). is_valid x.mark) es else filter (λ (x : Entry Row). is_valid x.mark) es) ≡ keys (rows_of_mark m ++ rows_in es)
    one (Valid row) rest r = ap (λ (k : List ℕ). k ∷ valid_keys es) (sym r.0) ∙ ap (λ (ks : List (List ℕ)). row.key ∷ ks) rest
    one Invalid rest r = rest
    one Spent rest r = rest

pub keys_length : (rows : List Row) → length (keys rows) ≡ length rows
keys_length [] = refl
keys_length (row ∷ rows) = ap suc (keys_length rows)

pub taken_keys : (n : ℕ) (rows : List Row) → take n (keys rows) ≡ keys (take n rows)
taken_keys zero rows = refl
taken_keys (suc n) [] = refl
taken_keys (suc n) (row ∷ rows) = ap (λ (ks : List (List ℕ)). row.key ∷ ks) (taken_keys n rows)

-- the last of some rows has a key that is read
pub last_is : (problem : Problem) (tests : Bool) (rows : List Row) → 0 < length rows → AreReadRows problem tests rows → (last_of (keys rows) ≡ Some (last_key rows)) × IsShown (last_key rows)
last_is problem tests [] some h = absurd (omega (arith, some))
last_is problem tests (row ∷ []) some h = (refl, h.0.shown)
last_is problem tests (row ∷ (next ∷ rows)) some h = last_is problem tests (next ∷ rows) (omega arith) h.1

-- the key of the first spent entry
pub spent_is : (es : List (Entry Row)) → spent_in es ≡ spent_key es
spent_is [] = refl
spent_is (e ∷ es) = one e.mark (spent_is es)
  where
    one : (m : Mark Row) → spent_in es ≡ spent_key es → (if is_spent m then Some e.key else spent_in es) ≡ spent_key_of e.key m (spent_key es)
    one (Valid row) rest = rest
    one Invalid rest = rest
    one Spent rest = refl

pub spent_shown : (problem : Problem) (tests : Bool) (es : List (Entry Row)) (key : List ℕ) → AreReadable problem tests es → spent_in es ≡ Some key → IsShown key
spent_shown problem tests [] key h e = absurd (cc (e))
spent_shown problem tests (x ∷ xs) key h e =
    elim (is_spent x.mark) as (λ t. (if t then Some x.key else spent_in xs) ≡ Some key → IsShown key) [
      | true ↦ λ q. let same : x.key ≡ key = cc (q) in subst IsShown same (shown x.key h.0.some h.0.short)
      | false ↦ λ q. spent_shown problem tests xs key h.1 q
    ] e
