-- Between crates: what a writer of lines has written, and how it ends.
use Rattle.std.specs.Prelude.{◌≡◌, ◌≤◌, ◌<◌, ◌⊎◌, ℕ, List, [], length, take, Option, Some, None}
use Rattle.kr_base.specs.Told.{Added, Stopped}
use Rattle.kr_mean.specs.declared.mode.Mode.{Mode}
use Rattle.kr_mean.specs.declared.mode.Mode.TheVariants.{List as Listing, Method as Testing}
use Rattle.kr_report.specs.Endings.{front_of}
use Rattle.kr_report.specs.Reports.{Answer, lines}
use Rattle.kr_report.specs.declared.lines.Summary.{Summary}
use Rattle.kr_report.specs.declared.lines.Summary.TheVariants as summaries
use Rattle.kr_report_streaming.specs.Lines.{failing_lines, last_of, status_by, texts}
use Rattle.kr_report_streaming.specs.declared.closing.Closing.{Closing}
use Rattle.kr_report_streaming.specs.declared.row_line.RowLine.{RowLine}
use Rattle.kr_report_streaming.specs.declared.writer.LineWriter.{LineWriter}
use Rattle.kr_survey.specs.declared.taker.End.{End}
use Rattle.kr_survey.specs.declared.taker.End.TheVariants.{Whole, Full as AtFull}
use Rattle.kr_survey.specs.declared.taker.Halt.{Halt}
use Rattle.kr_survey.specs.declared.taker.Halt.TheVariants.{Sink, Memory}
use Rattle.kr_survey.specs.declared.taker.Room.{Room}
use Rattle.kr_survey.specs.declared.taker.Room.TheVariants.{More, Full}

-- since the sink was so, these lines were written, as many as the limit allows, and counted
pub record HasWritten {K : Type 0} (taken : K → Option (List ℕ)) (faults : K → ℕ) (limit : ℕ) (from : K) (ls : List RowLine) (w : LineWriter) (out : K) : Type 0 where
  pub limit_is : w.limit ≡ limit
  pub text : Added taken faults from out (lines (texts (take limit ls)))
  pub valid : w.valid ≡ length (take limit ls)
  pub failing : w.failing ≡ length (failing_lines (take limit ls))
  pub last : w.last ≡ last_of [] (take limit ls)

-- these lines were handed over; it is full where the limit leaves some out; a put that failed left a front of them
abbrev pub WritesLines : {K : Type 0} → (K → Option (List ℕ)) → (K → ℕ) → LineWriter → K → List RowLine → LineWriter → K → Option Room → Type 0
WritesLines taken faults a from ls b out None = Stopped taken faults from out (lines (texts (take a.limit ls)))
WritesLines taken faults a from ls b out (Some More) = HasWritten taken faults a.limit from ls b out × (length ls ≤ a.limit)
WritesLines taken faults a from ls b out (Some Full) = HasWritten taken faults a.limit from ls b out × (a.limit < length ls)

-- ---- the last line

abbrev pub summary_of : Mode → ℕ → ℕ → ℕ → Summary
summary_of Listing valid failing tried = summaries.List valid tried
summary_of (Testing name) valid failing tried = summaries.Test valid failing tried

abbrev pub closing_by : Mode → LineWriter → ℕ → Option (List ℕ) → Closing
closing_by mode w tried None = record { summary = summary_of mode w.valid w.failing tried; status = status_by w.failing }
closing_by mode w tried (Some key) = record { summary = summaries.Spent key; status = 5 }

-- the last line and the status, by how the rows ended
abbrev pub closing_of : Mode → LineWriter → End → Closing
closing_of mode w (Whole tried spent) = closing_by mode w tried spent
closing_of mode w AtFull = record { summary = summaries.More w.last; status = status_by w.failing }

-- 0, or 1 where a row is failing, or 5 where an entry is spent
abbrev pub IsListingStatus : ℕ → Type 0
IsListingStatus status = (status ≡ 0) ⊎ (status ≡ 1) ⊎ (status ≡ 5)

-- a put failed after a front of an answer's rows, or memory was refused after some of them
abbrev pub HaltsAt : {K : Type 0} → (K → Option (List ℕ)) → (K → ℕ) → Answer → K → K → Halt → Type 0
HaltsAt taken faults answer from out Sink = Stopped taken faults from out (lines answer.rows)
HaltsAt taken faults answer from out (Memory why) = (n : ℕ) × Added taken faults from out (front_of answer n)
