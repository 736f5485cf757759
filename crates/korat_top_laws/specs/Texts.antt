-- To be believed: what a traced listing is made of, so that the checker accepts its text.
use Rattle.std.specs.Prelude.{◌≡◌, ℕ, ◌^◌, ◌≤◌, List, [], ◌∷◌, ◌++◌, true, flat_map, length, Some, None, Ok}
use Rattle.std.specs.List.{list_all}
use Rattle.kr_base.specs.declared.span.Span.{Span}
use Rattle.kr_text.specs.Splitting.{IsWithout, ended}
use Rattle.kr_core.specs.declared.event.Event.{Event}
use Rattle.kr_core.specs.States.{State, is_closed}
use Rattle.kr_core.specs.Cutting.{cuts_for}
use Rattle.kr_core.specs.Openings.{end_of, opening}
use Rattle.kr_report_streaming.specs.Traces.{trace_text}
use Rattle.kr_trace.specs.declared.ending.Last.{Last}
use Rattle.kr_trace.specs.Words.{last_in}
use Rattle.kr_trace.specs.Checked.{Rows, agrees, checked, is_test, rows_from}
use Rattle.korat_top_laws.specs.Printed.{Accepts}

-- lines, none of which has a last line's form
abbrev pub AreRows : List (List ℕ) → Type 0
AreRows [] = Unit {0}
AreRows (line ∷ lines) = IsWithout 10 line × (last_in line ≡ None) × AreRows lines

-- rows, a last line, and a log
abbrev pub text_of : List (List ℕ) → List ℕ → List Event → List ℕ
text_of rows last log = flat_map ended rows ++ (ended last ++ trace_text log)

-- The rows are read, and so is the last line; the log's events are accepted, one after another, from the state that the span is cut
-- in for the workers, and end where no segment has an owner or a remainder; and the last line says what rows and log say.
pub record IsTraced (span : Span) (workers : ℕ) (rows : List (List ℕ)) (line : List ℕ) (log : List Event) : Type 0 where
  pub last : Last
  pub read : Rows
  pub new : State
  pub are_rows : AreRows rows
  pub one_line : IsWithout 10 line
  pub is_last : last_in line ≡ Some last
  pub are_read : rows_from (is_test (Some last)) (end_of span) span.after 1 rows ≡ Ok read
  pub accepts : Accepts workers last read.keys (opening span (cuts_for span workers)) log new
  pub closed : list_all is_closed new.segments ≡ true
  pub says : agrees span read new last ≡ true

-- such a text, of at most 16 MiB, is accepted, with the number of the log's events
abbrev pub TextLaw : Type 0
TextLaw = (span : Span) (workers : ℕ) (rows : List (List ℕ)) (line : List ℕ) (log : List Event) → IsTraced span workers rows line log →
    length (text_of rows line log) ≤ 2 ^ 24 → checked span workers (text_of rows line log) ≡ Ok (length log)
