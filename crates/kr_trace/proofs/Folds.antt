-- The rows and the events of a text, a line at a time.
use Rattle.std.proofs.Common.{◌≡◌, ℕ, zero, suc, ◌+◌, ◌<◌, ◌≤◌, List, [], ◌∷◌, ◌++◌, Bool, true, false, length, take, drop, get_or, refl, sym, ap, ◌∙◌, subst, arith}
use Rattle.std.specs.Prelude.{Option, Some, None, Result, Ok, Err, ◌&&◌, not, if◌then◌else◌}
use Rattle.std.proofs.lemmas.List.{append-nil, append_assoc, drop_all, length-drop, length-take}
use Rattle.kr_text.specs.Splitting.{lines_in}
use Rattle.kr_base.specs.declared.span.Bound.{Bound}
use Rattle.kr_base.specs.declared.span.Bound.TheVariants.{At}
use Rattle.kr_base.specs.Bounds.{less}
use Rattle.kr_base.specs.Entries.{is_within}
use Rattle.kr_base.proofs.Bounds.{transitive}
use Rattle.kr_core.proofs.Bools.{and-left}
use Rattle.kr_trace.specs.declared.refusal.Fault.{Fault}
use Rattle.kr_trace.specs.declared.row.Row.{Row}
use Rattle.kr_trace.specs.Words.{row_in}
use Rattle.kr_trace.specs.declared.refusal.TraceRule.TheVariants.{KeyOrder}
use Rattle.kr_trace.specs.Checked.{Checked, Rows, and_then, bad, row_after, rows_from, with_row}
use Rattle.kr_trace.specs.Tables.{Ascend, adds}
use Rattle.kr_trace.specs.Stages.{Answers, HasRow, ReadsRow}
use Rattle.kr_trace.specs.declared.reading.Reading.{Reading}
use Rattle.kr_trace.specs.declared.refusal.TraceRefusal.{TraceRefusal}
use Rattle.kr_trace.specs.declared.refusal.TraceRefusal.TheVariants.{Bad, NoMemory}

-- ---- rows ascend

ok_of : {A B : Type 0} (r : Checked A) (f : A → Checked B) (b : B) → and_then r f ≡ Ok b → (a : A) × (r ≡ Ok a) × (f a ≡ Ok b)
ok_of (Ok a) f b e = (a, refl, e)
ok_of (Err fault) f b e = absurd (cc (e))

-- each is above the one before, the first above a key
abbrev Above : List ℕ → List (List ℕ) → Type 0
Above before [] = Unit {0}
Above before (k ∷ ks) = (less (At before) (At k) ≡ true) × Above k ks

row_above : (end : Bound) (before : List ℕ) (n : ℕ) (o : Option Row) (row : Row) → row_after end before n o ≡ Ok row → less (At before) (At row.key) ≡ true
row_above end before n None row e = absurd (cc (e))
row_above end before n (Some r) row e = go (is_within (At before) end r.key) refl e
  where
    go : (t : Bool) → is_within (At before) end r.key ≡ t → (if t then Ok r else bad n KeyOrder) ≡ Ok row → less (At before) (At row.key) ≡ true
    go true is e =
        let same : r ≡ row = cc (e) in
        subst (λ (x : Row). less (At before) (At x.key) ≡ true) same (and-left (less (At before) (At r.key)) (not (less end (At r.key))) is)
    go false is e = absurd (cc (e))

rows_above : (tests : Bool) (end : Bound) (before : List ℕ) (n : ℕ) (lines : List (List ℕ)) (rows : Rows) → rows_from tests end before n lines ≡ Ok rows → Above before rows.keys
rows_above tests end before n [] rows e =
    let same : record { keys = []; failing = 0 } ≡ rows = cc (e) in
    subst (λ (r : Rows). Above before r.keys) same tt
rows_above tests end before n (line ∷ lines) rows e =
    let first = ok_of (row_after end before n (row_in tests line)) (λ row. and_then (rows_from tests end row.key (n + 1) lines) (λ rows. Ok (with_row row rows))) rows e in
    let rest = ok_of (rows_from tests end first.0.key (n + 1) lines) (λ rows. Ok (with_row first.0 rows)) rows first.2 in
    let same : with_row first.0 rest.0 ≡ rows = let h = rest.2 in cc (h) in
    subst (λ (r : Rows). Above before r.keys) same (row_above end before n (row_in tests line) first.0 first.1, rows_above tests end first.0.key (n + 1) lines rest.0 rest.1)

above_at : (before : List ℕ) (keys : List (List ℕ)) → Above before keys → (j : ℕ) → j < length keys → less (At before) (At (get_or keys j [])) ≡ true
above_at before [] h j l = absurd (omega (arith, l))
above_at before (k ∷ ks) h zero l = h.0
above_at before (k ∷ ks) h (suc j) l = transitive (At before) (At k) (At (get_or ks j [])) h.0 (above_at k ks h.1 j (omega (arith, l)))

ascend_above : (before : List ℕ) (keys : List (List ℕ)) → Above before keys → Ascend keys
ascend_above before [] h i j below within = absurd (omega (arith, within))
ascend_above before (k ∷ ks) h zero zero below within = absurd (omega (arith, below))
ascend_above before (k ∷ ks) h zero (suc j) below within = above_at k ks h.1 j (omega (arith, within))
ascend_above before (k ∷ ks) h (suc i) zero below within = absurd (omega (arith, below))
ascend_above before (k ∷ ks) h (suc i) (suc j) below within = ascend_above k ks h.1 i j (omega (arith, below)) (omega (arith, within))

pub rows_ascend : (tests : Bool) (end : Bound) (before : List ℕ) (n : ℕ) (lines : List (List ℕ)) (rows : Rows) → rows_from tests end before n lines ≡ Ok rows → Ascend rows.keys
rows_ascend tests end before n lines rows e = ascend_above before rows.keys (rows_above tests end before n lines rows e)

-- ---- rows read so far

abbrev pub joined : Rows → Rows → Rows
joined done more = record { keys = done.keys ++ more.keys; failing = done.failing + more.failing }

abbrev pub onto_done : Rows → Checked Rows → Checked Rows
onto_done done r = and_then r (λ more. Ok (joined done more))

counts_more : (p : Bool) (a b : ℕ) → a + (if p then b else b + 1) ≡ (if p then a else a + 1) + b
counts_more true a b = refl
counts_more false a b = omega arith

joined_row : (done : Rows) (row : Row) (r : Checked Rows) → onto_done done (and_then r (λ rows. Ok (with_row row rows))) ≡ onto_done (adds done row.key row.passes) r
joined_row done row (Err fault) = refl
joined_row done row (Ok rows) =
    ap (λ (ks : List (List ℕ)). Ok (record { keys = ks; failing = done.failing + (if row.passes then rows.failing else rows.failing + 1) })) (sym (append_assoc done.keys (row.key ∷ []) rows.keys))
    ∙ ap (λ (n : ℕ). Ok (record { keys = done.keys ++ row.key ∷ [] ++ rows.keys; failing = n })) (counts_more row.passes done.failing rows.failing)

-- the rows of lines at an index, with those that were read
abbrev pub FromHere : Bool → Bound → List (List ℕ) → Checked Rows → Rows → List ℕ → ℕ → Type 0
FromHere tests end lines wanted done before at = wanted ≡ onto_done done (rows_from tests end before (at + 1) (drop at lines))

pub row_read : (tests : Bool) (end : Bound) (lines : List (List ℕ)) (wanted : Checked Rows) (done : Rows) (before : List ℕ) (at : ℕ) (line : List ℕ) (row : Row)
    → FromHere tests end lines wanted done before at → drop at lines ≡ line ∷ drop (at + 1) lines → row_after end before (at + 1) (row_in tests line) ≡ Ok row
    → FromHere tests end lines wanted (adds done row.key row.passes) row.key (at + 1)
row_read tests end lines wanted done before at line row so_far is read =
    so_far
    ∙ (ap (λ (ls : List (List ℕ)). onto_done done (rows_from tests end before (at + 1) ls)) is
    ∙ (ap (λ (r : Checked Row). onto_done done (and_then r (λ row. and_then (rows_from tests end row.key (at + 1 + 1) (drop (at + 1) lines)) (λ rows. Ok (with_row row rows))))) read
    ∙ joined_row done row (rows_from tests end row.key (at + 1 + 1) (drop (at + 1) lines))))

pub row_refused : (tests : Bool) (end : Bound) (lines : List (List ℕ)) (wanted : Checked Rows) (done : Rows) (before : List ℕ) (at : ℕ) (line : List ℕ) (fault : Fault)
    → FromHere tests end lines wanted done before at → drop at lines ≡ line ∷ drop (at + 1) lines → row_after end before (at + 1) (row_in tests line) ≡ Err fault
    → wanted ≡ Err fault
row_refused tests end lines wanted done before at line fault so_far is read =
    so_far
    ∙ (ap (λ (ls : List (List ℕ)). onto_done done (rows_from tests end before (at + 1) ls)) is
    ∙ ap (λ (r : Checked Row). onto_done done (and_then r (λ row. and_then (rows_from tests end row.key (at + 1 + 1) (drop (at + 1) lines)) (λ rows. Ok (with_row row rows))))) read)

pub rows_read : (tests : Bool) (end : Bound) (lines : List (List ℕ)) (wanted : Checked Rows) (done : Rows) (before : List ℕ) (at : ℕ)
    → FromHere tests end lines wanted done before at → drop at lines ≡ [] → wanted ≡ Ok done
rows_read tests end lines wanted done before at so_far is =
    so_far
    ∙ (ap (λ (ls : List (List ℕ)). onto_done done (rows_from tests end before (at + 1) ls)) is
    ∙ (ap (λ (ks : List (List ℕ)). Ok (record { keys = ks; failing = done.failing + 0 })) (append-nil done.keys)
    ∙ ap (λ (n : ℕ). Ok (record { keys = done.keys; failing = n })) (omega arith)))

-- ---- rows of the first lines of a text

pub record IsReading (tests : Bool) (end : Bound) (lines : List (List ℕ)) (count : ℕ) (after : List ℕ) (done : Rows) (before rest : List ℕ) (at : ℕ) : Type 0 where
  pub here : FromHere tests end (take count lines) (rows_from tests end after 1 (take count lines)) done before at
  pub left : lines_in rest ≡ drop at lines

pub begins_reading : (tests : Bool) (end : Bound) (text : List ℕ) (count : ℕ) (after before : List ℕ) → before ≡ after → IsReading tests end (lines_in text) count after (record { keys = []; failing = 0 }) before text 0
begins_reading tests end text count after before is = record {
  here = ap (λ (k : List ℕ). rows_from tests end k 1 (take count (lines_in text))) (sym is) ∙ sym (none_done (rows_from tests end before 1 (take count (lines_in text))));
  left = refl;
}
  where
    none_done : (r : Checked Rows) → onto_done (record { keys = []; failing = 0 }) r ≡ r
    none_done (Err fault) = refl
    none_done (Ok rows) = ap (λ (n : ℕ). Ok (record { keys = rows.keys; failing = n })) (omega arith)

-- the line at an index is read, where the text goes on with it
line_here : (lines : List (List ℕ)) (count at : ℕ) (line : List ℕ) (later : List (List ℕ)) → at < count → drop at lines ≡ line ∷ later → (drop at (take count lines) ≡ line ∷ drop (at + 1) (take count lines)) × (later ≡ drop (at + 1) lines)
line_here [] count zero line later h is = absurd (cc (is))
line_here [] count (suc at) line later h is = absurd (cc (is))
line_here (l ∷ lines) zero at line later h is = absurd (omega (arith, h))
line_here (l ∷ lines) (suc count) zero line later h is =
    let first : l ≡ line = cc (is) in
    (ap (λ (x : List ℕ). x ∷ take count lines) first, (let rest : lines ≡ later = cc (is) in sym rest))
line_here (l ∷ lines) (suc count) (suc at) line later h is =
    let more = line_here lines count at line later (omega (arith, h)) is in
    let next : suc at + 1 ≡ suc (at + 1) = omega arith in
    (rw next more.0, rw next more.1)

pub reads_on : (tests : Bool) (end : Bound) (lines : List (List ℕ)) (count : ℕ) (after : List ℕ) (done done' : Rows) (before rest line later : List ℕ) (at : ℕ) (row : Row)
    → IsReading tests end lines count after done before rest at → at < count → lines_in rest ≡ line ∷ lines_in later → row_after end before (at + 1) (row_in tests line) ≡ Ok row
    → done' ≡ adds done row.key row.passes → IsReading tests end lines count after done' row.key later (at + 1)
reads_on tests end lines count after done done' before rest line later at row h below is read added =
    let step = line_here lines count at line (lines_in later) below (sym h.left ∙ is) in
    record {
      here = subst (λ (d : Rows). FromHere tests end (take count lines) (rows_from tests end after 1 (take count lines)) d row.key (at + 1)) (sym added)
          (row_read tests end (take count lines) (rows_from tests end after 1 (take count lines)) done before at line row h.here step.0 read);
      left = step.1;
    }

pub reads_wrong : (tests : Bool) (end : Bound) (lines : List (List ℕ)) (count : ℕ) (after : List ℕ) (done : Rows) (before rest line later : List ℕ) (at : ℕ) (fault : Fault)
    → IsReading tests end lines count after done before rest at → at < count → lines_in rest ≡ line ∷ lines_in later → row_after end before (at + 1) (row_in tests line) ≡ Err fault
    → rows_from tests end after 1 (take count lines) ≡ Err fault
reads_wrong tests end lines count after done before rest line later at fault h below is read =
    let step = line_here lines count at line (lines_in later) below (sym h.left ∙ is) in
    row_refused tests end (take count lines) (rows_from tests end after 1 (take count lines)) done before at line fault h.here step.0 read

pub reads_all : (tests : Bool) (end : Bound) (lines : List (List ℕ)) (count : ℕ) (after : List ℕ) (done : Rows) (before rest : List ℕ) (at : ℕ)
    → IsReading tests end lines count after done before rest at → count ≤ at → rows_from tests end after 1 (take count lines) ≡ Ok done
reads_all tests end lines count after done before rest at h over =
    rows_read tests end (take count lines) (rows_from tests end after 1 (take count lines)) done before at h.here (drop_all at (take count lines) (omega (arith, length-take count lines, over)))

-- there is a line at an index below their number
pub line_there : (tests : Bool) (end : Bound) (lines : List (List ℕ)) (count : ℕ) (after : List ℕ) (done : Rows) (before rest : List ℕ) (at : ℕ)
    → IsReading tests end lines count after done before rest at → at < count → count ≤ length lines → lines_in rest ≡ [] → ⊥
line_there tests end lines count after done before rest at h below few none =
    omega (arith, ap length (sym h.left ∙ none), length-drop at lines, below, few)

pub begins_with : (tests : Bool) (end : Bound) (text : List ℕ) (count : ℕ) (after before : List ℕ) (done : Rows) → before ≡ after → done ≡ record { keys = []; failing = 0 } → IsReading tests end (lines_in text) count after done before text 0
begins_with tests end text count after before done is none =
    subst (λ (d : Rows). IsReading tests end (lines_in text) count after d before text 0) (sym none) (begins_reading tests end text count after before is)

pub reads_next : (tests : Bool) (end : Bound) (lines : List (List ℕ)) (count : ℕ) (after : List ℕ) (done : Rows) (before rest line later : List ℕ) (at : ℕ) (next : Reading)
    → IsReading tests end lines count after done before rest at → at < count → lines_in rest ≡ line ∷ lines_in later → HasRow (row_after end before (at + 1) (row_in tests line)) done next
    → IsReading tests end lines count after next.rows next.before later (at + 1)
reads_next tests end lines count after done before rest line later at next h below is read =
    subst (λ (k : List ℕ). IsReading tests end lines count after next.rows k later (at + 1)) (sym read.added.before_is)
    (reads_on tests end lines count after done next.rows before rest line later at read.row h below is read.is read.added.rows_are)

pub reads_refused : (tests : Bool) (end : Bound) (lines : List (List ℕ)) (count : ℕ) (after : List ℕ) (done : Rows) (before rest line later : List ℕ) (at : ℕ) (refusal : TraceRefusal)
    → IsReading tests end lines count after done before rest at → at < count → lines_in rest ≡ line ∷ lines_in later → ReadsRow (row_after end before (at + 1) (row_in tests line)) done (Err refusal)
    → Answers {A = Rows} (rows_from tests end after 1 (take count lines)) (Err refusal)
reads_refused tests end lines count after done before rest line later at (Bad fault) h below is read = reads_wrong tests end lines count after done before rest line later at fault h below is read
reads_refused tests end lines count after done before rest line later at (NoMemory why) h below is read = tt

pub rows_length : (tests : Bool) (end : Bound) (before : List ℕ) (n : ℕ) (lines : List (List ℕ)) (rows : Rows) → rows_from tests end before n lines ≡ Ok rows → length rows.keys ≡ length lines
rows_length tests end before n [] rows e =
    let same : record { keys = []; failing = 0 } ≡ rows = cc (e) in
    sym (ap (λ (r : Rows). length r.keys) same)
rows_length tests end before n (line ∷ lines) rows e =
    let first = ok_of (row_after end before n (row_in tests line)) (λ row. and_then (rows_from tests end row.key (n + 1) lines) (λ rows. Ok (with_row row rows))) rows e in
    let rest = ok_of (rows_from tests end first.0.key (n + 1) lines) (λ rows. Ok (with_row first.0 rows)) rows first.2 in
    let same : with_row first.0 rest.0 ≡ rows = let h = rest.2 in cc (h) in
    sym (ap (λ (r : Rows). length r.keys) same) ∙ ap suc (rows_length tests end first.0.key (n + 1) lines rest.0 rest.1)
