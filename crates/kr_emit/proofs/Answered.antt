-- The answer of builders as lines is that of the rows as builders.
use Rattle.std.proofs.Common.{◌≡◌, ℕ, ◌+◌, Bool, true, false, List, [], ◌∷◌, ◌++◌, length, take, map, refl, ap, ◌∙◌, subst}
use Rattle.std.specs.Prelude.{Option, Some, None, codes, decimal, nat_lt, if◌then◌else◌}
use Rattle.std.proofs.lemmas.List.{length-map, take-map}
use Rattle.kr_base.specs.Causes.{capped}
use Rattle.kr_base.specs.Entries.{entries_in}
use Rattle.kr_base.specs.declared.entry.Entry.{Entry}
use Rattle.kr_base.specs.declared.span.Bound.TheVariants.{At}
use Rattle.kr_base.specs.declared.span.Span.{Span}
use Rattle.kr_mean.specs.Entries.{all_entries}
use Rattle.kr_mean.specs.Problem.{Problem}
use Rattle.kr_mean.specs.declared.mode.Mode.TheVariants.{List as Listing}
use Rattle.kr_mean.specs.declared.row.Row.{Row}
use Rattle.kr_report.specs.Endings.{EndsListing}
use Rattle.kr_report.specs.Reports.{Answer, last_key, rows_in, spent_key}
use Rattle.kr_report.specs.Texts.{listed_text, more_text, spent_text}
use Rattle.kr_report_streaming.specs.Followed.{led_by}
use Rattle.kr_report_streaming.specs.Lines.{cut_lines, entries_answer, failing_lines, last_of, lines_answer, status_by, texts, whole_lines}
use Rattle.kr_report_streaming.specs.declared.row_line.RowLine.{RowLine}
use Rattle.kr_report_streaming.proofs.Law.{rows_by, spent_same, twice}
use Rattle.kr_survey.specs.Listings.{listed_in, spent_in}
use Rattle.kr_survey.specs.Mapping.{MappedLaw, entries_by}
use Rattle.kr_survey.specs.Scans.{rows_of}
use Rattle.kr_survey.proofs.Mapping.{entries_in_by}
use Rattle.kr_emit.specs.Makings.{made_of}
use Rattle.kr_emit.specs.Writers.{entries_numbered, numbered, text_at}
use Rattle.kr_emit.specs.declared.making.Builder.{Builder}
use Rattle.kr_emit.proofs.Numbered.{length_entries, length_numbered, rows_numbered, spent_numbered, take_numbered}
use Rattle.kr_emit_meaning.specs.Builders.{builder_text}
use Rattle.kr_emit_meaning.specs.Emitted.{built, builders_answer, builders_from, cut_builders, ended_by, whole_builders}

abbrev class_end : List ℕ
class_end = codes "}\n// "

none_failing : (n : ℕ) (bs : List Builder) → failing_lines (numbered n bs) ≡ []
none_failing n [] = refl
none_failing n (b ∷ bs) = none_failing (n + 1) bs

module _ (P : Problem) where
  abbrev lines_of : List Row → List RowLine
  lines_of rows = numbered 0 (map (made_of P) rows)

  texts_from : (n : ℕ) (rows : List Row) → texts (numbered n (map (made_of P) rows)) ≡ builders_from P n rows
  unfolding builder_text
  texts_from n [] = refl
  texts_from n (row ∷ rows) = ap (λ (ts : List (List ℕ)). text_at n (made_of P row) ∷ ts) (texts_from (n + 1) rows)

  last_from : (n : ℕ) (key : List ℕ) (row : Row) (rows : List Row) → last_of key (numbered n (map (made_of P) (row ∷ rows))) ≡ last_key (row ∷ rows)
  last_from n key row [] = refl
  last_from n key row (next ∷ rows) = last_from (n + 1) row.key next rows

  last_is : (rows : List Row) → last_of [] (lines_of rows) ≡ last_key rows
  last_is [] = refl
  last_is (row ∷ rows) = last_from 0 [] row rows

  no_failing : (rows : List Row) → length (failing_lines (lines_of rows)) ≡ 0
  no_failing rows = ap (λ (ls : List RowLine). length ls) (none_failing 0 (map (made_of P) rows))

  long : (rows : List Row) → length (lines_of rows) ≡ length rows
  long rows = length_numbered 0 (map (made_of P) rows) ∙ length-map rows (made_of P)

  cut_is : (rows : List Row) → led_by class_end (cut_lines (lines_of rows)) ≡ cut_builders P rows
  cut_is rows =
      let ls = lines_of rows in
      ap (λ (n : ℕ). ended_by (status_by n) (texts ls) (more_text (last_of [] ls))) (no_failing rows)
      ∙ (ap (λ (ts : List (List ℕ)). ended_by 0 ts (more_text (last_of [] ls))) (texts_from 0 rows)
      ∙ ap (λ (key : List ℕ). ended_by 0 (builders_from P 0 rows) (more_text key)) (last_is rows))

  whole_is : (es : List (Entry Row)) (spent : Option (List ℕ)) → led_by class_end (whole_lines Listing (lines_of (rows_in es)) (capped (length es)) spent) ≡ whole_builders P es spent
  whole_is es None =
      let rows = rows_in es in
      let ls = lines_of rows in
      let n = capped (length es) in
      ap (λ (m : ℕ). ended_by (status_by m) (texts ls) (listed_text (length ls) n)) (no_failing rows)
      ∙ (ap (λ (ts : List (List ℕ)). ended_by 0 ts (listed_text (length ls) n)) (texts_from 0 rows)
      ∙ (ap (λ (m : ℕ). ended_by 0 (builders_from P 0 rows) (listed_text m n)) (long rows)
      ∙ ap (λ (m : ℕ). ended_by 0 (builders_from P 0 rows) (codes "valid " ++ decimal (capped (length rows)) ++ codes " tried " ++ decimal m ++ codes "\n")) (twice (length es))))
  whole_is es (Some key) = ap (λ (ts : List (List ℕ)). ended_by 5 ts (spent_text key)) (texts_from 0 (rows_in es))

  rows_answer : (limit : ℕ) (es : List (Entry Row)) → led_by class_end (lines_answer Listing limit (lines_of (rows_in es)) (capped (length es)) (spent_key es)) ≡ builders_answer P limit es
  unfolding lines_answer builders_answer
  rows_answer limit es =
      let rows = rows_in es in
      let ls = lines_of rows in
      let taken : take limit ls ≡ lines_of (take limit rows) = take_numbered limit 0 (map (made_of P) rows) ∙ ap (numbered 0) (take-map (made_of P) limit rows) in
      by_length (nat_lt limit (length ls)) (nat_lt limit (length rows)) (ap (nat_lt limit) (long rows)) taken
    where
      by_length : (a b : Bool) → a ≡ b → take limit (lines_of (rows_in es)) ≡ lines_of (take limit (rows_in es))
          → led_by class_end (if a then cut_lines (take limit (lines_of (rows_in es))) else whole_lines Listing (lines_of (rows_in es)) (capped (length es)) (spent_key es)) ≡ (if b then cut_builders P (take limit (rows_in es)) else whole_builders P es (spent_key es))
      by_length true true e taken = ap (λ (ls : List RowLine). led_by class_end (cut_lines ls)) taken ∙ cut_is (take limit (rows_in es))
      by_length false false e taken = whole_is es (spent_key es)
      by_length true false e taken = absurd (cc (e))
      by_length false true e taken = absurd (cc (e))

  -- of entries whose rows are builders
  pub builders_law : MappedLaw Row Builder → (limit : ℕ) (es : List (Entry Row)) → led_by class_end (entries_answer Listing limit (entries_numbered 0 (entries_by (made_of P) es))) ≡ builders_answer P limit es
  builders_law law limit es =
      let f = made_of P in
      let bs = entries_by f es in
      let ls = entries_numbered 0 bs in
      let rows : rows_of ls ≡ lines_of (rows_in es) = rows_numbered 0 bs ∙ ap (numbered 0) (rows_by f es law) in
      let number : length ls ≡ length es = length_entries 0 bs ∙ (law f es).number in
      let spent : spent_in ls ≡ spent_key es = spent_numbered 0 bs ∙ spent_same f es in
      ap (λ (rs : List RowLine). led_by class_end (lines_answer Listing limit rs (capped (length ls)) (spent_in ls))) rows
      ∙ (ap (λ (n : ℕ). led_by class_end (lines_answer Listing limit (lines_of (rows_in es)) (capped n) (spent_in ls))) number
      ∙ (ap (λ (k : Option (List ℕ)). led_by class_end (lines_answer Listing limit (lines_of (rows_in es)) (capped (length es)) k)) spent
      ∙ rows_answer limit es))

-- the entries that a survey of builders lists
abbrev pub builders_in : Problem → Problem → Span → List (Entry Builder)
builders_in Q S span = listed_in (entries_by (made_of Q) (all_entries S)) span

-- a report of them is one of the problem's builders
pub ends_built : {K : Type 0} (taken : K → Option (List ℕ)) (faults : K → ℕ) (P Q S : Problem) (limit n : ℕ) (span : Span) (a b : K) (status : ℕ) → Q ≡ P → S ≡ P → n ≡ limit → MappedLaw Row Builder
    → EndsListing taken faults (led_by class_end (entries_answer Listing n (entries_numbered 0 (builders_in Q S span)))) a b status → EndsListing taken faults (built P limit span) a b status
ends_built taken faults P Q S limit n span a b status q s e law ends =
    let answer : led_by class_end (entries_answer Listing n (entries_numbered 0 (builders_in Q S span))) ≡ built P limit span =
    ap (λ (k : ℕ). led_by class_end (entries_answer Listing k (entries_numbered 0 (builders_in Q S span)))) e
    ∙ (ap (λ (x : Problem). led_by class_end (entries_answer Listing limit (entries_numbered 0 (builders_in x S span)))) q
    ∙ (ap (λ (x : Problem). led_by class_end (entries_answer Listing limit (entries_numbered 0 (builders_in P x span)))) s
    ∙ (ap (λ (es : List (Entry Builder)). led_by class_end (entries_answer Listing limit (entries_numbered 0 es))) (entries_in_by (made_of P) (At span.after) span.upto (all_entries P))
    ∙ builders_law P law limit (entries_in (At span.after) span.upto (all_entries P))))) in
    subst (λ (x : Answer). EndsListing taken faults x a b status) answer ends
