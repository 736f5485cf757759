-- Between crates: the run of a board that lists the lines of a problem's entries.
use Rattle.std.specs.Prelude.{◌≡◌, ℕ, List, [], Option, Some}
use Rattle.kr_base.specs.declared.entry.Entry.{Entry}
use Rattle.kr_base.specs.declared.span.Span.{Span}
use Rattle.kr_core.specs.declared.event.Event.{Event}
use Rattle.kr_mean.specs.Entries.{all_entries}
use Rattle.kr_mean.specs.Problem.{Problem}
use Rattle.kr_core.specs.Cutting.{cuts_for}
use Rattle.kr_report_streaming.specs.Lines.{line_of}
use Rattle.kr_report_streaming.specs.declared.row_line.RowLine.{RowLine}
use Rattle.kr_survey.specs.Mapping.{entries_by}

pub record IsRunOf (problem : Problem) (span : Span) (workers window limit : ℕ) (all : List (Entry RowLine)) (own : Span) (cuts : List (List ℕ)) (begun : List Event) (kept wanted : Option ℕ) : Type 0 where
  pub all_is : all ≡ entries_by (line_of problem) (all_entries problem)
  pub span_is : own ≡ span
  pub cuts_are : cuts ≡ cuts_for span workers
  pub fresh : begun ≡ []
  pub kept_is : kept ≡ Some window
  pub wanted_is : wanted ≡ Some limit
