-- A listing by one worker ends at the first row past the limit.
use Rattle.std.proofs.Common.{◌≡◌, ◌≤◌, ◌<◌, ℕ, zero, suc, ◌+◌, List, [], ◌∷◌, ◌++◌, Bool, true, false, length, refl, ap, ◌∙◌, inl, inr, arith, length-append}
use Rattle.std.specs.Prelude.{◌⊎◌, Option, Result, Ok, Err, IfOk, IfErr, OnErr, if◌then◌else◌}
use Rattle.kr_base.specs.Entries.{entries_in, is_valid}
use Rattle.kr_base.specs.declared.entry.Entry.{Entry}
use Rattle.kr_base.specs.declared.entry.Mark.{Mark}
use Rattle.kr_base.specs.declared.entry.Mark.TheVariants.{Valid, Invalid, Spent}
use Rattle.kr_base.specs.declared.span.Bound.TheVariants.{At}
use Rattle.kr_base.specs.declared.span.Span.{Span}
use Rattle.kr_mean.specs.Entries.{all_entries}
use Rattle.kr_mean.specs.Problem.{Problem}
use Rattle.kr_mean.specs.declared.mode.Mode.{Mode}
use Rattle.kr_report_listing.specs.Searched.{entries_to}
use Rattle.kr_report_listing.proofs.Listings.{lines_in}
use Rattle.kr_report.specs.Endings.{BreaksOff}
use Rattle.kr_report_streaming.specs.Lines.{entries_answer, line_of}
use Rattle.kr_report_streaming.specs.Writers.{WritesLines}
use Rattle.kr_report_streaming.specs.declared.row_line.RowLine.{RowLine}
use Rattle.kr_report_streaming.specs.declared.writer.LineWriter.{LineWriter}
use Rattle.kr_scan.specs.Filling.{IfFull, StopsWhenFull}
use Rattle.kr_survey.specs.Mapping.{entries_by, mark_by}
use Rattle.kr_survey.specs.Scans.{row_of, rows_of}
use Rattle.kr_survey.specs.Takings.{Halts, Hands}
use Rattle.kr_survey.specs.declared.taker.End.{End as Ending}
use Rattle.kr_survey.specs.declared.taker.End.TheVariants.{Whole, Full}
use Rattle.kr_survey.specs.declared.taker.Halt.{Halt}
use Rattle.kr_survey.proofs.Mapping.{entries_in_by, length_of_entries_by}

-- ---- entries to a row

-- a mark has one row where it is valid, and none else
rows_here : {R : Type 0} (m : Mark R) (n : ℕ) → (if is_valid m then n else suc n) + length (row_of m) ≡ suc n
rows_here (Valid row) n = omega arith
rows_here Invalid n = omega arith
rows_here Spent n = omega arith

picked : {R : Type 0} (n : ℕ) (b : Bool) (es : List (Entry R)) → (if b then entries_to n es else entries_to (suc n) es) ≡ entries_to (if b then n else suc n) es
picked n true es = refl
picked n false es = refl

-- of fewer rows than n all entries count, and one more
pub passes : {R : Type 0} (n : ℕ) (front : List (Entry R)) (last : Entry R) (behind : List (Entry R)) → length (rows_of front) < n → length front + 1 ≤ entries_to n (front ++ last ∷ behind)
passes zero front last behind h = absurd (omega (arith, h))
passes (suc n) [] last behind h = omega arith
passes (suc n) (e ∷ front) last behind h =
    let here = rows_here e.mark n in
    let both = length-append (row_of e.mark) (rows_of front) in
    let more = passes (if is_valid e.mark then n else suc n) front last behind (omega (arith, h, here, both)) in
    omega (arith, more, picked n (is_valid e.mark) (front ++ last ∷ behind))

pub all_count : {R : Type 0} (n : ℕ) (es : List (Entry R)) → length (rows_of es) < n → entries_to n es ≡ length es
all_count n [] h = refl
all_count zero (e ∷ es) h = absurd (omega (arith, h))
all_count (suc n) (e ∷ es) h =
    let here = rows_here e.mark n in
    let both = length-append (row_of e.mark) (rows_of es) in
    let more = all_count (if is_valid e.mark then n else suc n) es (omega (arith, h, here, both)) in
    omega (arith, more, picked n (is_valid e.mark) es)

-- ---- entries and their lines

valid_by : {R B : Type 0} (f : R → B) (m : Mark R) → is_valid (mark_by f m) ≡ is_valid m
valid_by f (Valid row) = refl
valid_by f Invalid = refl
valid_by f Spent = refl

entries_to_by : {R B : Type 0} (f : R → B) (n : ℕ) (es : List (Entry R)) → entries_to n (entries_by f es) ≡ entries_to n es
entries_to_by f n [] = refl
entries_to_by f zero (e ∷ es) = refl
entries_to_by f (suc n) (e ∷ es) =
    ap (λ (b : Bool). 1 + (if b then entries_to n (entries_by f es) else entries_to (suc n) (entries_by f es))) (valid_by f e.mark)
    ∙ (ap (λ (k : ℕ). 1 + (if is_valid e.mark then k else entries_to (suc n) (entries_by f es))) (entries_to_by f n es)
    ∙ ap (λ (k : ℕ). 1 + (if is_valid e.mark then entries_to n es else k)) (entries_to_by f (suc n) es))

lines_to : (P Q S : Problem) (n : ℕ) (span : Span) → S ≡ P → entries_to n (lines_in Q S span) ≡ entries_to n (entries_in (At span.after) span.upto (all_entries P))
lines_to P Q S n span s =
    ap (λ (x : Problem). entries_to n (lines_in Q x span)) s
    ∙ (ap (λ (es : List (Entry RowLine)). entries_to n es) (entries_in_by (line_of Q) (At span.after) span.upto (all_entries P)) ∙ entries_to_by (line_of Q) n (entries_in (At span.after) span.upto (all_entries P)))

lines_long : (Q S : Problem) (span : Span) → length (lines_in Q S span) ≡ length (entries_in (At span.after) span.upto (all_entries S))
lines_long Q S span = ap (λ (es : List (Entry RowLine)). length es) (entries_in_by (line_of Q) (At span.after) span.upto (all_entries S)) ∙ length_of_entries_by (line_of Q) (entries_in (At span.after) span.upto (all_entries S))

-- ---- runs

broken : (status : ℕ) → (status ≡ 7) ⊎ (status ≡ 8) → 7 ≤ status
broken status (inl e) = omega (arith, e)
broken status (inr e) = omega (arith, e)

-- a listing that breaks off ends with 7 or 8
pub late : {K : Type 0} (taken : K → Option (List ℕ)) (faults : K → ℕ) (mode : Mode) (es : List (Entry RowLine)) (w u : LineWriter) (a b c : K) (put : Result Ending Halt) (status : ℕ) → Hands (WritesLines taken faults) es w a u b put
    → IfErr put (λ halt. (x : LineWriter) (from : K) (ls : List (Entry RowLine)) → Halts (WritesLines taken faults) ls x from u b halt → BreaksOff taken faults (entries_answer mode x.limit ls) from c status) → OnErr put (7 ≤ status)
late taken faults mode es w u a b c (Ok end) status h k = tt
late taken faults mode es w u a b c (Err halt) status h k = broken status (k w a es h).known

-- where the report isn't cut off: a run for each entry to the first row past the limit, and those of seeking
pub runs_listed : {K : Type 0} (taken : K → Option (List ℕ)) (faults : K → ℕ) (P Q S : Problem) (limit : ℕ) (span : Span) (w u : LineWriter) (a b : K) (put : Result Ending Halt) (start now status : ℕ) → S ≡ P → w.limit ≡ limit → OnErr put (7 ≤ status) → status < 7
    → Hands (WritesLines taken faults) (lines_in Q S span) w a u b put
    → IfOk put (λ end. now ≤ start + length (entries_in (At span.after) span.upto (all_entries S)) + length span.after + 2)
    → IfOk put (λ end. IfFull end (StopsWhenFull (WritesLines taken faults) (lines_in Q S span) w a start now (length span.after + 1)))
    → now ≤ start + entries_to (limit + 1) (entries_in (At span.after) span.upto (all_entries P)) + length span.after + 2
runs_listed taken faults P Q S limit span w u a b (Err halt) start now status s l late few h k full = absurd (omega (arith, late, few))
runs_listed taken faults P Q S limit span w u a b (Ok (Whole tried spent)) start now status s l late few h k full =
    let all = entries_in (At span.after) span.upto (all_entries S) in
    let long : length (lines_in Q S span) ≡ length all = lines_long Q S span in
    let count = all_count (limit + 1) (lines_in Q S span) (omega (arith, h.0.1, l)) in
    omega (arith, k, long, count, lines_to P Q S (limit + 1) span s)
runs_listed taken faults P Q S limit span w u a b (Ok Full) start now status s l late few h k full =
    let past = passes (limit + 1) full.front full.last full.behind (omega (arith, full.room.1, l)) in
    omega (arith, full.few, past, ap (λ (es : List (Entry RowLine)). entries_to (limit + 1) es) full.parts, lines_to P Q S (limit + 1) span s)
