-- To be believed: rows as they are written. Between crates: the answer of a listing of them.
use Rattle.std.specs.Prelude.{◌≡◌, ℕ, List, [], ◌∷◌, length, take, map, filter, Option, Some, None, nat_lt, if◌then◌else◌}
use Rattle.kr_base.specs.Causes.{capped}
use Rattle.kr_base.specs.declared.entry.Entry.{Entry}
use Rattle.kr_mean.specs.Problem.{Problem}
use Rattle.kr_mean.specs.declared.mode.Mode.{Mode}
use Rattle.kr_mean.specs.declared.mode.Mode.TheVariants.{List as Listing, Method as Testing}
use Rattle.kr_mean.specs.declared.row.Row.{Row}
use Rattle.kr_report.specs.Texts.{listed_text, more_text, row_text, spent_text, tested_text}
use Rattle.kr_report.specs.Reports.{Answer, is_failing, listing_answer}
use Rattle.kr_report_streaming.specs.declared.row_line.RowLine.{RowLine}
use Rattle.kr_survey.specs.Listings.{spent_in}
use Rattle.kr_survey.specs.Mapping.{entries_by}
use Rattle.kr_survey.specs.Scans.{rows_of}

-- a row's key and line, and whether its verdict is failing
abbrev pub line_of : Problem → Row → RowLine
line_of problem row = record { key = row.key; text = row_text problem row; failing = is_failing row.verdict }

abbrev pub texts : List RowLine → List (List ℕ)
texts ls = map (λ (l : RowLine). l.text) ls

abbrev pub failing_lines : List RowLine → List RowLine
failing_lines ls = filter (λ (l : RowLine). l.failing) ls

abbrev pub status_by : ℕ → ℕ
status_by failing = if nat_lt 0 failing then 1 else 0

-- the key of the last line, or this one where there is none
abbrev pub last_of : List ℕ → List RowLine → List ℕ
last_of key [] = key
last_of key (l ∷ ls) = last_of l.key ls

-- the last line where all rows are written
abbrev pub whole_text : Mode → ℕ → ℕ → ℕ → List ℕ
whole_text Listing valid failing tried = listed_text valid tried
whole_text (Testing name) valid failing tried = tested_text valid failing tried

-- more rows than the limit allows
abbrev pub cut_lines : List RowLine → Answer
cut_lines ls = record { status = status_by (length (failing_lines ls)); rows = texts ls; last = more_text (last_of [] ls) }

-- all rows, of entries of which the last one may be spent
abbrev pub whole_lines : Mode → List RowLine → ℕ → Option (List ℕ) → Answer
whole_lines mode ls tried None = record { status = status_by (length (failing_lines ls)); rows = texts ls; last = whole_text mode (length ls) (length (failing_lines ls)) tried }
whole_lines mode ls tried (Some key) = record { status = 5; rows = texts ls; last = spent_text key }

-- of so many entries tried, at most so many lines
unfoldable pub lines_answer : Mode → ℕ → List RowLine → ℕ → Option (List ℕ) → Answer
lines_answer mode limit ls tried spent = if nat_lt limit (length ls) then cut_lines (take limit ls) else whole_lines mode ls tried spent

-- of entries whose rows are lines
abbrev pub entries_answer : Mode → ℕ → List (Entry RowLine) → Answer
entries_answer mode limit es = lines_answer mode limit (rows_of es) (capped (length es)) (spent_in es)

-- the listing of a problem's lines is the listing of its entries
abbrev pub LinesLaw : Type 0
LinesLaw = (problem : Problem) (limit : ℕ) (es : List (Entry Row)) → entries_answer problem.mode limit (entries_by (line_of problem) es) ≡ listing_answer problem limit es
