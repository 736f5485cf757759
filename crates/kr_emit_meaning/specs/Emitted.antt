-- To be believed: the builders of a listing: one class, with a method for each row.
use Rattle.std.specs.Prelude.{ℕ, ◌+◌, List, [], ◌∷◌, ◌++◌, length, take, nat_lt, codes, Option, Some, None, if◌then◌else◌}
use Rattle.kr_base.specs.Entries.{entries_in}
use Rattle.kr_base.specs.declared.entry.Entry.{Entry}
use Rattle.kr_base.specs.declared.span.Bound.TheVariants.{At}
use Rattle.kr_base.specs.declared.span.Span.{Span}
use Rattle.kr_mean.specs.Entries.{all_entries}
use Rattle.kr_mean.specs.Problem.{Problem}
use Rattle.kr_mean.specs.declared.row.Row.{Row}
use Rattle.kr_report.specs.Reports.{Answer, last_key, rows_in, spent_key}
use Rattle.kr_report.specs.Texts.{listed_text, more_text, spent_text}
use Rattle.kr_emit_meaning.specs.Builders.{builder_text}

-- the builders of rows, numbered from a number on
abbrev pub builders_from : Problem → ℕ → List Row → List (List ℕ)
builders_from problem n [] = []
builders_from problem n (row ∷ rows) = builder_text problem row n ∷ builders_from problem (n + 1) rows

abbrev pub class_line : List ℕ
class_line = codes "class KoratBuild {\n"

-- the class's end, and a listing's last line as a comment
abbrev pub ended_by : ℕ → List (List ℕ) → List ℕ → Answer
ended_by status builders line = record { status = status; rows = builders; last = codes "}\n// " ++ line }

-- of all rows; 5 where an entry is spent
abbrev pub whole_builders : Problem → List (Entry Row) → Option (List ℕ) → Answer
whole_builders problem es None = ended_by 0 (builders_from problem 0 (rows_in es)) (listed_text (length (rows_in es)) (length es))
whole_builders problem es (Some key) = ended_by 5 (builders_from problem 0 (rows_in es)) (spent_text key)

abbrev pub cut_builders : Problem → List Row → Answer
cut_builders problem rows = ended_by 0 (builders_from problem 0 rows) (more_text (last_key rows))

-- the builders of the entries' rows, at most so many
unfoldable pub builders_answer : Problem → ℕ → List (Entry Row) → Answer
builders_answer problem limit es =
    if nat_lt limit (length (rows_in es)) then cut_builders problem (take limit (rows_in es)) else whole_builders problem es (spent_key es)

-- those of a span
abbrev pub built : Problem → ℕ → Span → Answer
built problem limit span = builders_answer problem limit (entries_in (At span.after) span.upto (all_entries problem))

-- after the class's first line
abbrev pub emitted : Problem → ℕ → Span → Answer
emitted problem limit span =
    let builders = built problem limit span in
    record builders { rows = class_line ∷ builders.rows }
