-- A listing or a test with the log of its workers is accepted.
use Rattle.std.proofs.Common.{◌≡◌, ℕ, suc, ◌+◌, ◌-◌, ◌^◌, ◌<◌, ◌≤◌, ◌⊎◌, inl, inr, List, [], ◌∷◌, ◌++◌, Bool, true, false, length, length-take, map, min, take, refl, sym, ap, ◌∙◌, subst, arith, append_assoc, Option, Some, None, Ok}
use Rattle.std.specs.Prelude.{codes, decimal, flat_map, if◌then◌else◌, nat_lt, not}
use Rattle.std.proofs.lemmas.List.{length-map}
use Rattle.std.proofs.lemmas.Bool.Decides.{nat_tests}
use Rattle.kr_base.specs.declared.span.Bound.{Bound}
use Rattle.kr_base.specs.declared.span.Bound.TheVariants.{At}
use Rattle.kr_base.specs.declared.span.Span.{Span}
use Rattle.kr_base.specs.declared.entry.Entry.{Entry}
use Rattle.kr_base.specs.Bounds.{less}
use Rattle.kr_base.specs.Causes.{capped}
use Rattle.kr_base.specs.Entries.{Ascends, entries_in, within}
use Rattle.kr_base.proofs.Bounds.{irreflexive}
use Rattle.kr_core.specs.declared.event.Event.{Event}
use Rattle.kr_core.specs.declared.event.Event.TheVariants.{Take, Steal, Report, GiveUp, Drain, StopAt, Look}
use Rattle.kr_core.specs.Counts.{last_stop}
use Rattle.kr_core.specs.Cutting.{cuts_for}
use Rattle.kr_core.specs.Openings.{end_of, opening}
use Rattle.kr_core.specs.Rows.{drained}
use Rattle.kr_core.proofs.Bools.{and-right}
use Rattle.kr_mean.specs.Problem.{Problem}
use Rattle.kr_mean.specs.declared.mode.Mode.{Mode}
use Rattle.kr_mean.specs.declared.mode.Mode.TheVariants.{List as Listing, Method as Testing}
use Rattle.kr_mean.specs.declared.row.Row.{Row}
use Rattle.kr_report.specs.Reports.{bytes_of, cut_report, failing_in, is_failing, last_key, lines, listing_answer, rows_in, spent_key, summary_text, whole_report}
use Rattle.kr_report.specs.Texts.{listed_text, row_text, tested_text}
use Rattle.kr_report_streaming.specs.Followed.{followed_by}
use Rattle.kr_report_streaming.specs.Traces.{trace_text}
use Rattle.kr_survey.specs.Listings.{spent_in}
use Rattle.kr_text.specs.Splitting.{ended}
use Rattle.kr_pool_desk.specs.Runs.{are_shared, is_shared}
use Rattle.kr_pool_desk.specs.Short.{BeginsShort, IsShort, IsShortBound}
use Rattle.kr_pool_desk.specs.Traces.{IsTrace}
use Rattle.kr_pool_desk.proofs.Whole.{none-stops}
use Rattle.kr_trace.specs.declared.ending.Last.{Last}
use Rattle.kr_trace.specs.declared.ending.Last.TheVariants.{Listed, Tested, More, Spent}
use Rattle.kr_trace.specs.declared.row.Row.{Row as ReadRow}
use Rattle.kr_trace.specs.Checked.{agrees, checked, is_test}
use Rattle.kr_shard_laws.proofs.Back.{capped_fits}
use Rattle.korat_top_laws.specs.Ends.{HasNoStop, SaysWhole}
use Rattle.korat_top_laws.specs.Honest.{AreShown, valid_keys}
use Rattle.korat_top_laws.specs.Listings.{AreLinesOf, IsLogged, IsShownLast, last_line, read_of, written_to}
use Rattle.korat_top_laws.specs.More.{SaysMore, last_of}
use Rattle.korat_top_laws.specs.Spent.{SaysSpent}
use Rattle.korat_top_laws.specs.Texts.{text_of}
use Rattle.korat_top_laws.proofs.Ends.{ends}
use Rattle.korat_top_laws.proofs.Listings.{logged}
use Rattle.korat_top_laws.proofs.More.{more}
use Rattle.korat_top_laws.proofs.Spent.{spent}
use Rattle.korat_top_laws.specs.Readable.{AreReadable, IsModeOf}
use Rattle.korat_top_laws.proofs.Shown.{are_shown}
use Rattle.korat_top_laws.proofs.Begun.{opening_numbered, opening_short}
use Rattle.korat_top_laws.proofs.Rows.{AreReadRows, judged, judged_keys, keys, keys_length, keys_short, last_is, line, lines_judged, lines_unjudged, readable_in, rows_read, spent_is, spent_shown, taken_keys, taken_read, text_is, unjudged, unjudged_keys, valid_are}

no_stop : (workers : ℕ) (log : List Event) → are_shared workers log ≡ true → HasNoStop log
no_stop workers [] h = tt
no_stop workers (Take seat n ∷ log) h = no_stop workers log (and-right (is_shared workers (Take seat n)) (are_shared workers log) h)
no_stop workers (Steal seat victim cut n ∷ log) h = no_stop workers log (and-right (is_shared workers (Steal seat victim cut n)) (are_shared workers log) h)
no_stop workers (Report seat n reach rows tried spent ∷ log) h = no_stop workers log (and-right (is_shared workers (Report seat n reach rows tried spent)) (are_shared workers log) h)
no_stop workers (GiveUp seat n ∷ log) h = no_stop workers log (and-right (is_shared workers (GiveUp seat n)) (are_shared workers log) h)
no_stop workers (Drain rows ∷ log) h = no_stop workers log (and-right (is_shared workers (Drain rows)) (are_shared workers log) h)
no_stop workers (StopAt mark ∷ log) h = absurd (cc (h))
no_stop workers (Look seat ∷ log) h = no_stop workers log (and-right (is_shared workers (Look seat)) (are_shared workers log) h)

-- ---- the summary

four : (a b c d : List ℕ) → a ++ b ++ c ++ d ≡ a ++ (b ++ (c ++ d))
four a b c d = append_assoc (a ++ b) c d ∙ append_assoc a b (c ++ d)

six : (a b c d e f : List ℕ) → a ++ b ++ c ++ d ++ e ++ f ≡ a ++ (b ++ (c ++ (d ++ (e ++ f))))
six a b c d e f = append_assoc (a ++ b ++ c ++ d) e f ∙ (append_assoc (a ++ b ++ c) d (e ++ f) ∙ four a b c (d ++ (e ++ f)))

capped_is : (n : ℕ) → n < 2 ^ 64 → capped n ≡ n
capped_is n h = omega (arith, h)

listed_is : (valid tried : ℕ) → valid < 2 ^ 64 → listed_text valid tried ≡ ended (last_line (Listed valid (capped tried)))
listed_is valid tried h =
    ap (λ (t : List ℕ). t ++ codes "\n") (four (codes "valid ") (decimal (capped valid)) (codes " tried ") (decimal (capped tried)))
    ∙ ap (λ (n : ℕ). ended (last_line (Listed n (capped tried)))) (capped_is valid h)

tested_is : (valid failing tried : ℕ) → valid < 2 ^ 64 → failing < 2 ^ 64 → tested_text valid failing tried ≡ ended (last_line (Tested valid failing (capped tried)))
tested_is valid failing tried h k =
    ap (λ (t : List ℕ). t ++ codes "\n") (six (codes "valid ") (decimal (capped valid)) (codes " failing ") (decimal (capped failing)) (codes " tried ") (decimal (capped tried)))
    ∙ (ap (λ (n : ℕ). ended (last_line (Tested n (capped failing) (capped tried)))) (capped_is valid h) ∙ ap (λ (n : ℕ). ended (last_line (Tested valid n (capped tried)))) (capped_is failing k))

failing_is : (rows : List Row) → (read_of (map judged rows)).failing ≡ length (failing_in rows)
failing_is [] = refl
failing_is (row ∷ rows) =
    elim (is_failing row.verdict) as (λ b. (if not b then (read_of (map judged rows)).failing else (read_of (map judged rows)).failing + 1) ≡ length (if b then row ∷ failing_in rows else failing_in rows)) [
      | true ↦ (let h = failing_is rows in omega (arith, h))
      | false ↦ failing_is rows
    ]

failing_few : (rows : List Row) → length (failing_in rows) ≤ length rows
failing_few [] = omega arith
failing_few (row ∷ rows) =
    let rest = failing_few rows in
    elim (is_failing row.verdict) as (λ b. length (if b then row ∷ failing_in rows else failing_in rows) ≤ suc (length rows)) [ true ↦ omega (arith, rest) | false ↦ omega (arith, rest) ]

over : (limit n : ℕ) → nat_lt limit n ≡ true → limit < n
over limit n h = grind (arith, nat_tests)

under : (limit n : ℕ) → nat_lt limit n ≡ false → n ≤ limit
under limit n h = grind (arith, nat_tests)

-- ---- a report and its log

module _ (problem : Problem) (tests : Bool) (mode : IsModeOf tests problem.mode) (all : List (Entry Row)) (ascends : Ascends all) (readable : AreReadable problem tests all) (span : Span) (after : IsShort span.after) (upto : IsShortBound span.upto)
    (workers limit : ℕ) (few : workers ≤ 2 ^ 32) (some : 0 < limit) (small : limit < 2 ^ 32) (log : List Event) (trace : IsTrace all span workers log)
    (unstopped : length (rows_in (entries_in (At span.after) span.upto all)) ≤ limit → are_shared workers log ≡ true) (past : are_shared workers log ≡ false → limit < drained log) where
  abbrev es : List (Entry Row)
  es = entries_in (At span.after) span.upto all

  abbrev rows : List Row
  rows = rows_in es

  own : AreReadable problem tests es
  own = readable_in problem tests (At span.after) span.upto all readable

  begins : BeginsShort all (opening span (cuts_for span workers))
  begins = record { keys = keys_short problem tests all readable; segments = opening_short span workers few after upto }

  log_shown : AreShown workers log
  log_shown = are_shown all workers (opening span (cuts_for span workers)) log trace.last few trace.runs (opening_numbered span workers few) (trace.short begins) trace.seats

  -- the text of a report of some rows, with a last line
  abbrev IsText : List Row → List ℕ → Type 0
  IsText rs last =
      let text = lines (map (row_text problem) rs) ++ (last ++ trace_text log) in
      length text ≤ 2 ^ 24 → checked span workers text ≡ Ok (length log)

  by_law : (rs : List Row) (reads : List ReadRow) (text : List ℕ) (last : Last) → text ≡ ended (last_line last) → IsLogged all span workers reads (map (line problem) rs) last log → IsText rs text
  by_law rs reads text last is h =
      let same : lines (map (row_text problem) rs) ++ (text ++ trace_text log) ≡ text_of (map (line problem) rs) (last_line last) log =
      ap (λ (t : List ℕ). t ++ (text ++ trace_text log)) (text_is problem rs) ∙ ap (λ (t : List ℕ). flat_map ended (map (line problem) rs) ++ (t ++ trace_text log)) is in
      subst (λ (t : List ℕ). length t ≤ 2 ^ 24 → checked span workers t ≡ Ok (length log)) (sym same) (logged all span workers reads (map (line problem) rs) last log h)

  -- beside a key that ends it
  at_key : (rs : List Row) (last : Last) (ks : List (List ℕ)) → is_test (Some last) ≡ false → length rs < 2 ^ 64 → IsShownLast last → AreReadRows problem tests rs → ks ≡ keys rs
      → ks ≡ valid_keys (within (At span.after) (written_to span last) all) → less (end_of span) (written_to span last) ≡ false
      → ((failing : ℕ) → agrees span (record { keys = ks; failing = failing }) trace.last last ≡ true) → IsText rs (ended (last_line last))
  at_key rs last ks untested short shown_last read same keys_are inside says =
      let eq : ks ≡ (read_of (map unjudged rs)).keys = same ∙ sym (unjudged_keys rs) in
      by_law rs (map unjudged rs) (ended (last_line last)) last refl (record {
        new = trace.last;
        ascends = ascends;
        lines_are = subst (λ (t : Bool). AreLinesOf t (map unjudged rs) (map (line problem) rs)) (sym untested) (lines_unjudged problem tests rs read);
        keys_are = sym eq ∙ keys_are;
        inside = inside;
        few = (let l = length-map rs unjudged in omega (arith, short, l));
        shown_last = shown_last;
        runs = trace.runs;
        shown = log_shown;
        closed = trace.closed;
        says = subst (λ (k : List (List ℕ)). agrees span (record { keys = k; failing = (read_of (map unjudged rs)).failing }) trace.last last ≡ true) eq (says (read_of (map unjudged rs)).failing);
      })

  -- rows are left out
  cut : limit < length rows → IsText (take limit rows) (cut_report problem (take limit rows)).last
  cut over =
      let rs = take limit rows in
      let long : length rs ≡ min limit (length rows) = length-take limit rows in
      let read = taken_read problem tests limit rows (rows_read problem tests es own) in
      let last = last_is problem tests rs (omega (arith, some, over, long)) read in
      let valid : valid_keys es ≡ keys rows = valid_are problem tests es own in
      let taken : take limit (valid_keys es) ≡ keys rs = ap (take limit) valid ∙ taken_keys limit rows in
      let count : length (valid_keys es) ≡ length rows = ap (λ (k : List (List ℕ)). length k) valid ∙ keys_length rows in
      let end : (last_stop span.upto log ≡ span.upto) ⊎ (limit < drained log) = ended_or_past in
      let says : SaysMore all span (last_key rs) trace.last (take limit (valid_keys es)) =
      more all span workers limit (last_key rs) log trace.last (record {
        ascends = ascends;
        runs = trace.runs;
        closed = trace.closed;
        small = omega (arith, small);
        more = omega (arith, over, count);
        past = end;
        last = ap last_of taken ∙ last.0;
      }) in
      at_key rs (More (last_key rs)) (take limit (valid_keys es)) refl (omega (arith, long, small)) last.1 read taken says.keys_are says.inside says.says
    where
      ended_or_past : (last_stop span.upto log ≡ span.upto) ⊎ (limit < drained log)
      ended_or_past = elim (are_shared workers log) as (λ b. are_shared workers log ≡ b → (last_stop span.upto log ≡ span.upto) ⊎ (limit < drained log)) [
        | true ↦ λ e. inl (none-stops span.upto workers log e)
        | false ↦ λ e. inr (past e)
      ] refl

  -- all of them, up to a spent entry
  at_spent : (key : List ℕ) → length rows ≤ limit → spent_key es ≡ Some key → IsText rows (whole_report problem es (Some key)).last
  at_spent key few_rows is =
      let shared = unstopped few_rows in
      let spent_at : spent_in es ≡ Some key = spent_is es ∙ is in
      let says : SaysSpent all span key trace.last (valid_keys es) =
      spent all span workers key log trace.last (record {
        ascends = ascends;
        runs = trace.runs;
        closed = trace.closed;
        unstopped = none-stops span.upto workers log shared;
        spent = spent_at;
      }) in
      at_key rows (Spent key) (valid_keys es) refl (omega (arith, few_rows, small)) (spent_shown problem tests es key own spent_at) (rows_read problem tests es own) (valid_are problem tests es own) says.keys_are says.inside
      says.says

  -- or to the end
  summed : (t : Bool) (m : Mode) → IsModeOf t m → Last
  summed false Listing h = Listed (length rows) (capped (length es))
  summed false (Testing n) h = absurd h
  summed true Listing h = absurd h
  summed true (Testing n) h = Tested (length rows) (length (failing_in rows)) (capped (length es))

  record IsSummed (t : Bool) (m : Mode) (last : Last) : Type 0 where
    text : summary_text m rows (length es) ≡ ended (last_line last)
    tested : is_test (Some last) ≡ t
    to_end : written_to span last ≡ end_of span
    shown : IsShownLast last
    says : (agreed : SaysWhole all span trace.last (valid_keys es) (capped (length es))) → agrees span (read_of (map judged rows)) trace.last last ≡ true

  summary : length rows < 2 ^ 64 → (t : Bool) (m : Mode) (h : IsModeOf t m) → IsSummed t m (summed t m h)
  unfolding summed
  summary short t m h = of t m h
    where
      eq : valid_keys es ≡ (read_of (map judged rows)).keys
      eq = valid_are problem tests es own ∙ sym (judged_keys rows)

      count : length (read_of (map judged rows)).keys ≡ length rows
      count = ap (λ (k : List (List ℕ)). length k) (judged_keys rows) ∙ keys_length rows

      of : (t : Bool) (m : Mode) (h : IsModeOf t m) → IsSummed t m (summed t m h)
      of false Listing h = record {
        text = listed_is (length rows) (length es) short;
        tested = refl;
        to_end = refl;
        shown = (short, capped_fits (length es));
        says = λ agreed.
            subst (λ (n : ℕ). agrees span (read_of (map judged rows)) trace.last (Listed n (capped (length es))) ≡ true) count
            (subst (λ (k : List (List ℕ)). agrees span (record { keys = k; failing = (read_of (map judged rows)).failing }) trace.last (Listed (length k) (capped (length es))) ≡ true) eq
            (agreed.listed (read_of (map judged rows)).failing));
      }
      of false (Testing n) h = absurd h
      of true Listing h = absurd h
      of true (Testing n) h = record {
        text = tested_is (length rows) (length (failing_in rows)) (length es) short (let f = failing_few rows in omega (arith, f, short));
        tested = refl;
        to_end = refl;
        shown = (short, (let f = failing_few rows in omega (arith, f, short)), capped_fits (length es));
        says = λ agreed.
            subst (λ (f : ℕ). agrees span (read_of (map judged rows)) trace.last (Tested (length rows) f (capped (length es))) ≡ true) (failing_is rows)
            (subst (λ (n : ℕ). agrees span (read_of (map judged rows)) trace.last (Tested n (read_of (map judged rows)).failing (capped (length es))) ≡ true) count
            (subst (λ (k : List (List ℕ)). agrees span (record { keys = k; failing = (read_of (map judged rows)).failing }) trace.last (Tested (length k) (read_of (map judged rows)).failing (capped (length es))) ≡ true) eq
            (agreed.tested (read_of (map judged rows)).failing)));
      }

  whole : length rows ≤ limit → spent_key es ≡ None → IsText rows (whole_report problem es None).last
  whole few_rows is =
      let shared = unstopped few_rows in
      let short : length rows < 2 ^ 64 = omega (arith, few_rows, small) in
      let agreed : SaysWhole all span trace.last (valid_keys es) (capped (length es)) =
      ends all span workers log trace.last (record { ascends = ascends; runs = trace.runs; closed = trace.closed; unstopped = no_stop workers log shared; unspent = spent_is es ∙ is }) in
      let last = summed tests problem.mode mode in
      let sum : IsSummed tests problem.mode last = summary short tests problem.mode mode in
      by_law rows (map judged rows) (summary_text problem.mode rows (length es)) last sum.text (record {
        new = trace.last;
        ascends = ascends;
        lines_are = subst (λ (t : Bool). AreLinesOf t (map judged rows) (map (line problem) rows)) (sym sum.tested) (lines_judged problem tests rows (rows_read problem tests es own));
        keys_are = judged_keys rows ∙ (sym (valid_are problem tests es own) ∙ (agreed.keys_are ∙ ap (λ (b : Bound). valid_keys (within (At span.after) b all)) (sym sum.to_end)));
        inside = ap (less (end_of span)) sum.to_end ∙ irreflexive (end_of span);
        few = (let l = length-map rows judged in omega (arith, short, l));
        shown_last = sum.shown;
        runs = trace.runs;
        shown = log_shown;
        closed = trace.closed;
        says = sum.says agreed;
      })

  pub accepted : length (bytes_of (followed_by (trace_text log) (listing_answer problem limit es))) ≤ 2 ^ 24
      → checked span workers (bytes_of (followed_by (trace_text log) (listing_answer problem limit es))) ≡ Ok (length log)
  unfolding listing_answer
  accepted =
      elim (nat_lt limit (length rows)) as (λ b. nat_lt limit (length rows) ≡ b
      → length (bytes_of (followed_by (trace_text log) (if b then cut_report problem (take limit rows) else whole_report problem es (spent_key es)))) ≤ 2 ^ 24
      → checked span workers (bytes_of (followed_by (trace_text log) (if b then cut_report problem (take limit rows) else whole_report problem es (spent_key es)))) ≡ Ok (length log)) [
        | true ↦ λ e. cut (over limit (length rows) e)
        | false ↦ λ e. to_last (under limit (length rows) e) (spent_key es) refl
      ] refl
    where
      to_last : length rows ≤ limit → (o : Option (List ℕ)) → spent_key es ≡ o → length (bytes_of (followed_by (trace_text log) (whole_report problem es o))) ≤ 2 ^ 24
          → checked span workers (bytes_of (followed_by (trace_text log) (whole_report problem es o))) ≡ Ok (length log)
      to_last f None is = whole f is
      to_last f (Some key) is = at_spent key f is
