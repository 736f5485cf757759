-- The listing of a problem's lines is the listing of its entries; so is the tally.
use Rattle.std.proofs.Common.{◌≡◌, ℕ, suc, List, [], ◌∷◌, ◌++◌, Bool, true, false, length, take, map, refl, ap, ◌∙◌, arith}
use Rattle.std.specs.Prelude.{Option, Some, None, codes, decimal, nat_lt, if◌then◌else◌}
use Rattle.std.proofs.lemmas.List.{length-map, take-map}
use Rattle.kr_base.specs.Causes.{capped}
use Rattle.kr_base.specs.declared.entry.Entry.{Entry}
use Rattle.kr_base.specs.declared.entry.Mark.{Mark}
use Rattle.kr_base.specs.declared.entry.Mark.TheVariants.{Valid, Invalid, Spent}
use Rattle.kr_base.specs.Entries.{is_spent}
use Rattle.kr_mean.specs.Problem.{Problem}
use Rattle.kr_mean.specs.declared.mode.Mode.{Mode}
use Rattle.kr_mean.specs.declared.mode.Mode.TheVariants.{List as Listing, Method as Testing}
use Rattle.kr_mean.specs.declared.row.Row.{Row}
use Rattle.kr_report.specs.Texts.{more_text, row_text, spent_text}
use Rattle.kr_report.specs.Reports.{Answer, cut_report, failing_in, is_failing, last_key, listing_answer, rows_in, rows_of_mark, spent_key, spent_key_of, summary_text, whole_report}
use Rattle.kr_report_streaming.specs.Lines.{LinesLaw, cut_lines, failing_lines, last_of, line_of, lines_answer, status_by, texts, whole_lines, whole_text}
use Rattle.kr_report_streaming.specs.Tallies.{CountLaw, tally_by}
use Rattle.kr_report_streaming.specs.declared.row_line.RowLine.{RowLine}
use Rattle.kr_survey.specs.Listings.{spent_in}
use Rattle.kr_survey.specs.Mapping.{MappedLaw, entries_by, mark_by}
use Rattle.kr_survey.specs.Scans.{row_of, rows_of}

-- ---- rows and keys, as surveys and as reports have them

row_same : (m : Mark Row) → row_of m ≡ rows_of_mark m
row_same (Valid row) = refl
row_same Invalid = refl
row_same Spent = refl

pub rows_same : (es : List (Entry Row)) → rows_of es ≡ rows_in es
rows_same [] = refl
rows_same (e ∷ es) = ap (λ l. l ++ rows_of es) (row_same e.mark) ∙ ap (λ l. rows_of_mark e.mark ++ l) (rows_same es)

key_same : {R : Type 0} (f : Row → R) (key : List ℕ) (m : Mark Row) (rest : Option (List ℕ)) → (if is_spent (mark_by f m) then Some key else rest) ≡ spent_key_of key m rest
key_same f key (Valid row) rest = refl
key_same f key Invalid rest = refl
key_same f key Spent rest = refl

pub spent_same : {R : Type 0} (f : Row → R) (es : List (Entry Row)) → spent_in (entries_by f es) ≡ spent_key es
spent_same f [] = refl
spent_same f (e ∷ es) = ap (λ (k : Option (List ℕ)). if is_spent (mark_by f e.mark) then Some e.key else k) (spent_same f es) ∙ key_same f e.key e.mark (spent_key es)

pub rows_by : {R : Type 0} (f : Row → R) (es : List (Entry Row)) → MappedLaw Row R → rows_of (entries_by f es) ≡ map f (rows_in es)
rows_by f es law = (law f es).rows ∙ ap (map f) (rows_same es)

-- ---- lines

texts_by : (P : Problem) (rows : List Row) → texts (map (line_of P) rows) ≡ map (row_text P) rows
texts_by P [] = refl
texts_by P (row ∷ rows) = ap (λ l. row_text P row ∷ l) (texts_by P rows)

one_by : (b : Bool) (l : RowLine) (row : Row) (ls : List RowLine) (rows : List Row) → length ls ≡ length rows
    → length (let all : List RowLine = if b then l ∷ ls else ls in all) ≡ length (let all : List Row = if b then row ∷ rows else rows in all)
one_by true l row ls rows h = ap suc h
one_by false l row ls rows h = h

failing_by : (P : Problem) (rows : List Row) → length (failing_lines (map (line_of P) rows)) ≡ length (failing_in rows)
failing_by P [] = refl
failing_by P (row ∷ rows) = one_by (is_failing row.verdict) (line_of P row) row (failing_lines (map (line_of P) rows)) (failing_in rows) (failing_by P rows)

last_after : (P : Problem) (key : List ℕ) (row : Row) (rows : List Row) → last_of key (map (line_of P) (row ∷ rows)) ≡ last_key (row ∷ rows)
last_after P key row [] = refl
last_after P key row (next ∷ rows) = last_after P row.key next rows

last_by : (P : Problem) (rows : List Row) → last_of [] (map (line_of P) rows) ≡ last_key rows
last_by P [] = refl
last_by P (row ∷ rows) = last_after P [] row rows

abbrev answer : ℕ → List (List ℕ) → List ℕ → Answer
answer status rows last = record { status = status; rows = rows; last = last }

cut_by : (P : Problem) (rows : List Row) → cut_lines (map (line_of P) rows) ≡ cut_report P rows
cut_by P rows =
    let ls = map (line_of P) rows in
    ap (λ (n : ℕ). answer (status_by n) (texts ls) (more_text (last_of [] ls))) (failing_by P rows)
    ∙ (ap (λ (ts : List (List ℕ)). answer (status_by (length (failing_in rows))) ts (more_text (last_of [] ls))) (texts_by P rows)
    ∙ ap (λ (k : List ℕ). answer (status_by (length (failing_in rows))) (map (row_text P) rows) (more_text k)) (last_by P rows))

pub twice : (n : ℕ) → capped (capped n) ≡ capped n
twice n = omega arith

summary_by : (mode : Mode) (rows : List Row) (n : ℕ) → whole_text mode (length rows) (length (failing_in rows)) (capped n) ≡ summary_text mode rows n
summary_by Listing rows n = ap (λ (m : ℕ). codes "valid " ++ decimal (capped (length rows)) ++ codes " tried " ++ decimal m ++ codes "\n") (twice n)
summary_by (Testing name) rows n =
    ap (λ (m : ℕ). codes "valid " ++ decimal (capped (length rows)) ++ codes " failing " ++ decimal (capped (length (failing_in rows))) ++ codes " tried " ++ decimal m ++ codes "\n") (twice n)

whole_by : (P : Problem) (es : List (Entry Row)) (spent : Option (List ℕ)) → whole_lines P.mode (map (line_of P) (rows_in es)) (capped (length es)) spent ≡ whole_report P es spent
whole_by P es None =
    let rows = rows_in es in
    let ls = map (line_of P) rows in
    let n = capped (length es) in
    ap (λ (f : ℕ). answer (status_by f) (texts ls) (whole_text P.mode (length ls) f n)) (failing_by P rows)
    ∙ (ap (λ (ts : List (List ℕ)). answer (status_by (length (failing_in rows))) ts (whole_text P.mode (length ls) (length (failing_in rows)) n)) (texts_by P rows)
    ∙ (ap (λ (v : ℕ). answer (status_by (length (failing_in rows))) (map (row_text P) rows) (whole_text P.mode v (length (failing_in rows)) n)) (length-map rows (line_of P))
    ∙ ap (λ (t : List ℕ). answer (status_by (length (failing_in rows))) (map (row_text P) rows) t) (summary_by P.mode rows (length es))))
whole_by P es (Some key) = ap (λ (ts : List (List ℕ)). answer 5 ts (spent_text key)) (texts_by P (rows_in es))

rows_answer : (P : Problem) (limit : ℕ) (es : List (Entry Row)) → lines_answer P.mode limit (map (line_of P) (rows_in es)) (capped (length es)) (spent_key es) ≡ listing_answer P limit es
unfolding lines_answer listing_answer
rows_answer P limit es =
    let rows = rows_in es in
    let ls = map (line_of P) rows in
    let n = capped (length es) in
    ap (λ (t : ℕ). let a : Answer = if nat_lt limit t then cut_lines (take limit ls) else whole_lines P.mode ls n (spent_key es) in a) (length-map rows (line_of P))
    ∙ (ap (λ (c : Answer). let a : Answer = if nat_lt limit (length rows) then c else whole_lines P.mode ls n (spent_key es) in a) (ap cut_lines (take-map (line_of P) limit rows) ∙ cut_by P (take limit rows))
    ∙ ap (λ (w : Answer). let a : Answer = if nat_lt limit (length rows) then cut_report P (take limit rows) else w in a) (whole_by P es (spent_key es)))

pub lines_law : MappedLaw Row RowLine → LinesLaw
lines_law law P limit es =
    let f = line_of P in
    ap (λ (ls : List RowLine). lines_answer P.mode limit ls (capped (length (entries_by f es))) (spent_in (entries_by f es))) (rows_by f es law)
    ∙ (ap (λ (n : ℕ). lines_answer P.mode limit (map f (rows_in es)) (capped n) (spent_in (entries_by f es))) (law f es).number
    ∙ (ap (λ (k : Option (List ℕ)). lines_answer P.mode limit (map f (rows_in es)) (capped (length es)) k) (spent_same f es)
    ∙ rows_answer P limit es))

pub count_law : MappedLaw Row (Unit {0}) → CountLaw
count_law law nodes es =
    let f : Row → Unit {0} = λ row. tt in
    ap (λ (us : List (Unit {0})). tally_by nodes (length us) (spent_in (entries_by f es))) (rows_by f es law)
    ∙ (ap (λ (n : ℕ). tally_by nodes n (spent_in (entries_by f es))) (length-map (rows_in es) f)
    ∙ ap (λ (k : Option (List ℕ)). tally_by nodes (length (rows_in es)) k) (spent_same f es))
