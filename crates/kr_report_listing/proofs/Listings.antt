-- The answer of a problem's lines is that of its entries, and so is the tally.
use Rattle.std.proofs.Common.{◌≡◌, ◌≤◌, ◌<◌, ℕ, List, [], ◌++◌, ◌+◌, true, length, take, map, refl, sym, ap, ◌∙◌, subst, arith, append-nil}
use Rattle.std.specs.Prelude.{Option, Result, Ok, Err, IfOk, OnErr}
use Rattle.std.proofs.lemmas.List.{length-map}
use Rattle.kr_base.specs.Entries.{entries_in}
use Rattle.kr_base.specs.declared.entry.Entry.{Entry}
use Rattle.kr_base.specs.declared.span.Bound.{Bound}
use Rattle.kr_base.specs.declared.span.Bound.TheVariants.{At, End}
use Rattle.kr_base.specs.declared.span.Span.{Span}
use Rattle.kr_mean.specs.Entries.{all_entries}
use Rattle.kr_mean.specs.Problem.{Problem}
use Rattle.kr_mean.specs.declared.mode.Mode.{Mode}
use Rattle.kr_mean.specs.declared.row.Row.{Row}
use Rattle.kr_report.specs.Endings.{EndsListing}
use Rattle.kr_report.specs.Reports.{Answer, rows_in}
use Rattle.kr_report_listing.specs.Listed.{listed, tallied}
use Rattle.kr_report_streaming.specs.Followed.{followed_by}
use Rattle.kr_report_streaming.specs.Lines.{LinesLaw, entries_answer, line_of}
use Rattle.kr_report_streaming.specs.Tallies.{CountLaw, count_answer}
use Rattle.kr_report_streaming.specs.declared.row_line.RowLine.{RowLine}
use Rattle.kr_report_streaming.proofs.Law.{rows_same}
use Rattle.kr_survey.specs.Listings.{listed_in}
use Rattle.kr_survey.specs.Mapping.{entries_by}
use Rattle.kr_survey.specs.Scans.{rows_of}
use Rattle.kr_survey.specs.declared.taker.End.{End as Ending}
use Rattle.kr_survey.specs.declared.taker.Halt.{Halt}
use Rattle.kr_survey.proofs.Mapping.{entries_in_by, rows_by}

-- the entries that a survey of lines lists
abbrev pub lines_in : Problem → Problem → Span → List (Entry RowLine)
lines_in Q S span = listed_in (entries_by (line_of Q) (all_entries S)) span

-- their answer, where the survey is the problem's
pub answer_is : (P Q S : Problem) (limit n : ℕ) (span : Span) (mode : Mode) → Q ≡ P → S ≡ P → mode ≡ P.mode → n ≡ limit → LinesLaw → entries_answer mode n (lines_in Q S span) ≡ listed P limit span
answer_is P Q S limit n span mode q s m e law =
    ap (λ (x : Mode). entries_answer x n (lines_in Q S span)) m
    ∙ (ap (λ (k : ℕ). entries_answer P.mode k (lines_in Q S span)) e
    ∙ (ap (λ (x : Problem). entries_answer P.mode limit (lines_in x S span)) q
    ∙ (ap (λ (x : Problem). entries_answer P.mode limit (lines_in P x span)) s
    ∙ (ap (λ (es : List (Entry RowLine)). entries_answer P.mode limit es) (entries_in_by (line_of P) (At span.after) span.upto (all_entries P)) ∙ law P limit (entries_in (At span.after) span.upto (all_entries P))))))

followed_none : (x : Answer) → followed_by [] x ≡ x
followed_none x = ap (λ (t : List ℕ). let a : Answer = record { status = x.status; rows = x.rows; last = t } in a) (append-nil x.last)

-- a report of them is one of the problem's entries
pub ends_listed : {K : Type 0} (taken : K → Option (List ℕ)) (faults : K → ℕ) (P Q S : Problem) (limit n : ℕ) (span : Span) (mode : Mode) (a b : K) (status : ℕ) → Q ≡ P → S ≡ P → mode ≡ P.mode → n ≡ limit → LinesLaw
    → EndsListing taken faults (followed_by [] (entries_answer mode n (lines_in Q S span))) a b status → EndsListing taken faults (listed P limit span) a b status
ends_listed taken faults P Q S limit n span mode a b status q s m e law ends =
    subst (λ (x : Answer). EndsListing taken faults x a b status) (followed_none (entries_answer mode n (lines_in Q S span)) ∙ answer_is P Q S limit n span mode q s m e law) ends

-- ---- the tally

pub ends_tallied : {K : Type 0} (taken : K → Option (List ℕ)) (faults : K → ℕ) (P S : Problem) (nodes : ℕ) (span : Span) (a b : K) (status : ℕ) → S ≡ P → span.after ≡ [] → span.upto ≡ End → CountLaw
    → EndsListing taken faults (count_answer nodes (listed_in (entries_by (λ (row : Row). tt) (all_entries S)) span)) a b status → EndsListing taken faults (tallied P nodes) a b status
ends_tallied taken faults P S nodes span a b status s after upto law ends =
    let f : Row → Unit {0} = λ row. tt in
    let all = all_entries P in
    let same : count_answer nodes (listed_in (entries_by f (all_entries S)) span) ≡ tallied P nodes =
    ap (λ (x : Problem). count_answer nodes (listed_in (entries_by f (all_entries x)) span)) s
    ∙ (ap (λ (k : List ℕ). count_answer nodes (entries_in (At k) span.upto (entries_by f all))) after
    ∙ (ap (λ (x : Bound). count_answer nodes (entries_in (At []) x (entries_by f all))) upto
    ∙ (ap (λ (es : List (Entry (Unit {0}))). count_answer nodes es) (entries_in_by f (At []) End all) ∙ law nodes (entries_in (At []) End all)))) in
    subst (λ (x : Answer). EndsListing taken faults x a b status) same ends

-- ---- how many rows there are

pub rows_long : (P Q S : Problem) (span : Span) → S ≡ P → length (rows_of (lines_in Q S span)) ≡ length (rows_in (entries_in (At span.after) span.upto (all_entries P)))
rows_long P Q S span s =
    let f = line_of Q in
    let es = entries_in (At span.after) span.upto (all_entries P) in
    ap (λ (x : Problem). length (rows_of (lines_in Q x span))) s
    ∙ (ap (λ (l : List (Entry RowLine)). length (rows_of l)) (entries_in_by f (At span.after) span.upto (all_entries P))
    ∙ (ap (λ (l : List RowLine). length l) (rows_by f es) ∙ (length-map (rows_of es) f ∙ ap (λ (l : List Row). length l) (rows_same es))))

-- ---- how many runs there are

-- where the report isn't cut off, a run an entry and two more
pub runs_alone : (P S : Problem) (after : List ℕ) (put : Result Ending Halt) (start now status : ℕ) → S ≡ P → after ≡ [] → OnErr put (7 ≤ status) → status < 7
    → IfOk put (λ end. now ≤ start + length (entries_in (At after) End (all_entries S)) + length after + 2) → now ≤ start + length (entries_in (At []) End (all_entries P)) + 2
runs_alone P S after (Err halt) start now status s e late few runs = absurd (omega (arith, late, few))
runs_alone P S after (Ok end) start now status s e late few runs =
    let all = ap (λ (x : Problem). length (entries_in (At after) End (all_entries x))) s ∙ ap (λ (k : List ℕ). length (entries_in (At k) End (all_entries P))) e in
    let none : length after ≡ 0 = ap (λ (k : List ℕ). length k) e in
    omega (arith, runs, all, none)
