-- To be believed: the answer that says how many entries are valid, or which one is spent.
use Rattle.std.specs.Prelude.{◌≡◌, ℕ, List, length, Option, Some, None}
use Rattle.kr_base.specs.Causes.{capped}
use Rattle.kr_base.specs.declared.entry.Entry.{Entry}
use Rattle.kr_mean.specs.declared.row.Row.{Row}
use Rattle.kr_report.specs.Reports.{Answer, line_answer, rows_in, spent_key}
use Rattle.kr_report.specs.Texts.{counted_text, spent_text}
use Rattle.kr_report.specs.declared.lines.Summary.{Summary}
use Rattle.kr_report.specs.declared.lines.Summary.TheVariants as summaries
use Rattle.kr_report_streaming.specs.declared.counter.Counter.{Counter}
use Rattle.kr_survey.specs.Listings.{spent_in}
use Rattle.kr_survey.specs.Mapping.{entries_by}
use Rattle.kr_survey.specs.Scans.{rows_of}
use Rattle.kr_survey.specs.declared.taker.End.{End}
use Rattle.kr_survey.specs.declared.taker.End.TheVariants.{Whole, Full as AtFull}
use Rattle.kr_survey.specs.declared.taker.Room.{Room}
use Rattle.kr_survey.specs.declared.taker.Room.TheVariants.{More}

-- how many entries are valid, where none is spent; else `spent KEY` of the first spent one
abbrev pub tally_by : ℕ → ℕ → Option (List ℕ) → Answer
tally_by nodes valid None = line_answer 0 (counted_text nodes (capped valid))
tally_by nodes valid (Some key) = line_answer 5 (spent_text key)

-- the answer of entries that are counted alone, for so many nodes
abbrev pub tally_answer : ℕ → List (Entry Row) → Answer
tally_answer nodes es = tally_by nodes (length (rows_in es)) (spent_key es)

-- ---- between crates

-- of entries whose rows are left out
abbrev pub count_answer : ℕ → List (Entry (Unit {0})) → Answer
count_answer nodes es = tally_by nodes (length (rows_of es)) (spent_in es)

abbrev pub CountLaw : Type 0
CountLaw = (nodes : ℕ) (es : List (Entry Row)) → count_answer nodes (entries_by (λ (row : Row). tt) es) ≡ tally_answer nodes es

-- the line that says it, by how the rows ended
abbrev pub summary_by : ℕ → ℕ → End → Summary
summary_by nodes count (Whole tried None) = summaries.Demo nodes count
summary_by nodes count (Whole tried (Some key)) = summaries.Spent key
summary_by nodes count AtFull = summaries.Demo nodes count

-- it has counted these rows, and nothing was put
pub record HasCounted {K : Type 0} (from : K) (rows : List (Unit {0})) (now : Counter) (out : K) (room : Option Room) : Type 0 where
  pub same : out ≡ from
  pub count : now.count ≡ capped (length rows)
  pub more : room ≡ Some More
