-- To be believed: a listing or a test with any last line, and a log that is honest about its entries.
use Rattle.std.specs.Prelude.{◌≡◌, ℕ, ◌^◌, ◌<◌, ◌≤◌, List, [], ◌∷◌, ◌++◌, Bool, false, true, codes, decimal, length, Option, Some, None, Ok}
use Rattle.std.specs.List.{list_all}
use Rattle.kr_base.specs.declared.span.Bound.{Bound}
use Rattle.kr_base.specs.declared.span.Bound.TheVariants.{At}
use Rattle.kr_base.specs.declared.span.Span.{Span}
use Rattle.kr_base.specs.declared.entry.Entry.{Entry}
use Rattle.kr_base.specs.Bounds.{less}
use Rattle.kr_base.specs.Cuts.{cut_text}
use Rattle.kr_base.specs.Entries.{Ascends, within}
use Rattle.kr_text.specs.Splitting.{IsWithout}
use Rattle.kr_core.specs.declared.event.Event.{Event}
use Rattle.kr_core.specs.States.{State, is_closed}
use Rattle.kr_core.specs.Counts.{HonestRuns}
use Rattle.kr_core.specs.Cutting.{cuts_for}
use Rattle.kr_core.specs.Openings.{end_of, opening}
use Rattle.kr_trace.specs.declared.ending.Last.{Last}
use Rattle.kr_trace.specs.declared.ending.Last.TheVariants.{Listed, Tested, More, Spent}
use Rattle.kr_trace.specs.declared.row.Row.{Row}
use Rattle.kr_trace.specs.Words.{last_in, row_in}
use Rattle.kr_trace.specs.Checked.{Rows, agrees, checked, is_test, with_row}
use Rattle.korat_top_laws.specs.Honest.{AreShown, valid_keys}
use Rattle.korat_top_laws.specs.Printed.{IsShown}
use Rattle.korat_top_laws.specs.Texts.{text_of}
use Rattle.korat_top_laws.specs.Whole.{listed_line}

-- a line that is read as a row: of a test by its verdict too
pub record IsLineOf (tests : Bool) (row : Row) (line : List ℕ) : Type 0 where
  pub one_line : IsWithout 10 line
  pub no_last : last_in line ≡ None
  pub read : row_in tests line ≡ Some row

abbrev pub AreLinesOf : Bool → List Row → List (List ℕ) → Type 0
AreLinesOf tests [] [] = Unit {0}
AreLinesOf tests [] (line ∷ lines) = ⊥
AreLinesOf tests (row ∷ rows) [] = ⊥
AreLinesOf tests (row ∷ rows) (line ∷ lines) = IsLineOf tests row line × AreLinesOf tests rows lines

-- the rows' keys, and how many fail
abbrev pub read_of : List Row → Rows
read_of [] = record { keys = []; failing = 0 }
read_of (row ∷ rows) = with_row row (read_of rows)

-- `valid V failing B tried T`
abbrev pub tested_line : ℕ → ℕ → ℕ → List ℕ
tested_line valid failing tried = codes "valid " ++ (decimal valid ++ (codes " failing " ++ (decimal failing ++ (codes " tried " ++ decimal tried))))

-- the line that says it
abbrev pub last_line : Last → List ℕ
last_line (Listed valid tried) = listed_line valid tried
last_line (Tested valid failing tried) = tested_line valid failing tried
last_line (More key) = codes "more " ++ cut_text key
last_line (Spent key) = codes "spent " ++ cut_text key

-- numbers as the program's types have them, and a key whose text is read as it
abbrev pub IsShownLast : Last → Type 0
IsShownLast (Listed valid tried) = (valid < 2 ^ 64) × (tried < 2 ^ 64)
IsShownLast (Tested valid failing tried) = (valid < 2 ^ 64) × (failing < 2 ^ 64) × (tried < 2 ^ 64)
IsShownLast (More key) = IsShown key
IsShownLast (Spent key) = IsShown key

-- up to where the rows are written: all of the span, or the last line's key
abbrev pub written_to : Span → Last → Bound
written_to span (Listed valid tried) = end_of span
written_to span (Tested valid failing tried) = end_of span
written_to span (More key) = At key
written_to span (Spent key) = At key

-- The lines are rows of the valid entries up to where rows are written, which is inside the span; the log is honest about all entries,
-- by the workers, and ends where no segment has an owner or a remainder; and the last line says what rows and log say.
pub record IsLogged {R : Type 0} (es : List (Entry R)) (span : Span) (workers : ℕ) (rows : List Row) (lines : List (List ℕ)) (last : Last) (log : List Event) : Type 0 where
  pub new : State
  pub ascends : Ascends es
  pub lines_are : AreLinesOf (is_test (Some last)) rows lines
  pub keys_are : (read_of rows).keys ≡ valid_keys (within (At span.after) (written_to span last) es)
  pub inside : less (end_of span) (written_to span last) ≡ false
  pub few : length rows < 2 ^ 64
  pub shown_last : IsShownLast last
  pub runs : HonestRuns es (opening span (cuts_for span workers)) log new
  pub shown : AreShown workers log
  pub closed : list_all is_closed new.segments ≡ true
  pub says : agrees span (read_of rows) new last ≡ true

-- such rows, the last line, and the lines of the log are accepted, in at most 16 MiB
abbrev pub ListingLaw : Type 0 → Type 0
ListingLaw R = (es : List (Entry R)) (span : Span) (workers : ℕ) (rows : List Row) (lines : List (List ℕ)) (last : Last) (log : List Event) →
    IsLogged es span workers rows lines last log → length (text_of lines (last_line last) log) ≤ 2 ^ 24 →
    checked span workers (text_of lines (last_line last) log) ≡ Ok (length log)
