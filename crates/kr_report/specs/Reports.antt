-- To be believed: reports: a status, the lines of rows, and the last line. What a listing of entries reports.
use Rattle.std.specs.Prelude.{ℕ, Bool, true, false, List, [], ◌∷◌, ◌++◌, length, take, map, filter, flat_map, Option, Some, None, nat_lt, if◌then◌else◌}
use Rattle.kr_base.specs.declared.entry.Mark.{Mark}
use Rattle.kr_base.specs.declared.entry.Mark.TheVariants.{Valid, Invalid, Spent}
use Rattle.kr_base.specs.declared.entry.Entry.{Entry}
use Rattle.kr_mean.specs.Problem.{Problem}
use Rattle.kr_mean.specs.declared.kind.Verdict.{Verdict}
use Rattle.kr_mean.specs.declared.kind.Verdict.TheVariants.{Pass, Ensures, Signals, RepOk, Trap, CheckTrap, Spent as OutOfFuel}
use Rattle.kr_mean.specs.declared.mode.Mode.{Mode}
use Rattle.kr_mean.specs.declared.mode.Mode.TheVariants.{List as Listing, Method as Testing}
use Rattle.kr_mean.specs.declared.row.Row.{Row}
use Rattle.kr_report.specs.Texts.{row_text, listed_text, tested_text, more_text, spent_text}

pub record Answer : Type 0 where
  pub status : ℕ
  pub rows : List (List ℕ)
  pub last : List ℕ

abbrev pub lines : List (List ℕ) → List ℕ
lines rows = flat_map (λ (row : List ℕ). row) rows

-- all that is written
abbrev pub bytes_of : Answer → List ℕ
bytes_of answer = lines answer.rows ++ answer.last

abbrev pub line_answer : ℕ → List ℕ → Answer
line_answer status text = record { status = status; rows = []; last = text }

-- ---- reports

abbrev pub rows_of_mark : Mark Row → List Row
rows_of_mark (Valid row) = row ∷ []
rows_of_mark Invalid = []
rows_of_mark Spent = []

-- the rows of the valid entries
abbrev pub rows_in : List (Entry Row) → List Row
rows_in es = flat_map (λ (e : Entry Row). rows_of_mark e.mark) es

-- the key of a spent entry
abbrev pub spent_key_of : List ℕ → Mark Row → Option (List ℕ) → Option (List ℕ)
spent_key_of key Spent rest = Some key
spent_key_of key (Valid row) rest = rest
spent_key_of key Invalid rest = rest

abbrev pub spent_key : List (Entry Row) → Option (List ℕ)
spent_key [] = None
spent_key (e ∷ es) = spent_key_of e.key e.mark (spent_key es)

abbrev pub is_failing : Option Verdict → Bool
is_failing None = false
is_failing (Some Pass) = false
is_failing (Some (Ensures n)) = true
is_failing (Some (Signals n)) = true
is_failing (Some RepOk) = true
is_failing (Some (Trap kind)) = true
is_failing (Some (CheckTrap kind)) = true
is_failing (Some OutOfFuel) = true

abbrev pub failing_in : List Row → List Row
failing_in rows = filter (λ row. is_failing row.verdict) rows

-- 1 where a written row isn't a pass
abbrev pub status_of : List Row → ℕ
status_of rows = if nat_lt 0 (length (failing_in rows)) then 1 else 0

abbrev pub summary_text : Mode → List Row → ℕ → List ℕ
summary_text Listing rows tried = listed_text (length rows) tried
summary_text (Testing n) rows tried = tested_text (length rows) (length (failing_in rows)) tried

abbrev pub last_key : List Row → List ℕ
last_key [] = []
last_key (row ∷ []) = row.key
last_key (row ∷ next ∷ rows) = last_key (next ∷ rows)

-- a report of these rows with this last line
abbrev pub report : Problem → ℕ → List Row → List ℕ → Answer
report problem status rows last = record { status = status; rows = map (row_text problem) rows; last = last }

-- the report of a span: the summary, or `spent KEY` where its last entry is spent
abbrev pub whole_report : Problem → List (Entry Row) → Option (List ℕ) → Answer
whole_report problem es None = report problem (status_of (rows_in es)) (rows_in es) (summary_text problem.mode (rows_in es) (length es))
whole_report problem es (Some key) = report problem 5 (rows_in es) (spent_text key)

-- the first rows, and `more KEY`
abbrev pub cut_report : Problem → List Row → Answer
cut_report problem rows = report problem (status_of rows) rows (more_text (last_key rows))

-- the report of the entries in a span, with at most so many rows
unfoldable pub listing_answer : Problem → ℕ → List (Entry Row) → Answer
listing_answer problem limit es =
    if nat_lt limit (length (rows_in es)) then cut_report problem (take limit (rows_in es)) else whole_report problem es (spent_key es)
