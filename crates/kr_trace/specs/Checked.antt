-- To be believed: which texts are a listing with the log of its board, and the first line and rule that another text breaks.
use Rattle.std.specs.Prelude.{ℕ, ◌+◌, ◌^◌, ◌==◌, List, [], ◌∷◌, Bool, true, false, ◌&&◌, not, filter, length, nat_le, nat_lt, Option, Some, None, Result, Ok, Err, if◌then◌else◌}
use Rattle.std.specs.List.{sum_by, list_all}
use Rattle.kr_base.specs.declared.span.Bound.{Bound}
use Rattle.kr_base.specs.declared.span.Bound.TheVariants.{At, End}
use Rattle.kr_base.specs.declared.span.Span.{Span}
use Rattle.kr_base.specs.Bounds.{is_same, less}
use Rattle.kr_base.specs.Causes.{capped}
use Rattle.kr_base.specs.Entries.{is_within}
use Rattle.kr_text.specs.Splitting.{is_empty, lines_in, unended}
use Rattle.kr_core.specs.declared.event.Event.{Event}
use Rattle.kr_core.specs.declared.event.Event.TheVariants.{Take, Steal, Report, GiveUp, Drain, StopAt, Look}
use Rattle.kr_core.specs.declared.segment.Segment.{Segment}
use Rattle.kr_core.specs.States.{State, is_closed, segment_of}
use Rattle.kr_core.specs.Cutting.{cuts_for}
use Rattle.kr_core.specs.Openings.{end_of, opening}
use Rattle.kr_core.specs.Steps.{after, fits}
use Rattle.kr_trace.specs.declared.ending.Last.{Last}
use Rattle.kr_trace.specs.declared.ending.Last.TheVariants.{Listed, Tested, More, Spent}
use Rattle.kr_trace.specs.declared.row.Row.{Row}
use Rattle.kr_trace.specs.declared.refusal.Fault.{Fault}
use Rattle.kr_trace.specs.declared.refusal.TraceRule.{TraceRule}
use Rattle.kr_trace.specs.declared.refusal.TraceRule.TheVariants.{TooLong, NoForm, KeyOrder, NoStep, OtherRows, Unfinished, OtherEnding}
use Rattle.kr_trace.specs.Words.{event_in, last_in, row_in}

abbrev pub Checked : Type 0 → Type 0
Checked A = Result A Fault

abbrev pub bad : {A : Type 0} → ℕ → TraceRule → Checked A
bad line rule = Err (record { line = line; rule = rule })

abbrev pub and_then : {A B : Type 0} → Checked A → (A → Checked B) → Checked B
and_then (Ok a) f = f a
and_then (Err fault) f = Err fault

-- ---- the three parts

-- the lines before the first that has a last line's form, that one, and the lines after it
pub record Parts : Type 0 where
  pub rows : List (List ℕ)
  pub last : Option Last
  pub events : List (List ℕ)

abbrev pub in_front : List ℕ → Parts → Parts
in_front line parts = record parts { rows = line ∷ parts.rows }

abbrev pub parted_by : Option Last → List ℕ → List (List ℕ) → Parts → Parts
parted_by None line lines parts = in_front line parts
parted_by (Some last) line lines parts = record { rows = []; last = Some last; events = lines }

abbrev pub parts_of : List (List ℕ) → Parts
parts_of [] = record { rows = []; last = None; events = [] }
parts_of (line ∷ lines) = parted_by (last_in line) line lines (parts_of lines)

abbrev pub is_test : Option Last → Bool
is_test (Some (Tested valid failing tried)) = true
is_test (Some (Listed valid tried)) = false
is_test (Some (More key)) = false
is_test (Some (Spent key)) = false
is_test None = false

-- ---- rows

-- the rows' keys, and how many rows have a verdict that isn't a pass
pub record Rows : Type 0 where
  pub keys : List (List ℕ)
  pub failing : ℕ

abbrev pub with_row : Row → Rows → Rows
with_row row rows = record { keys = row.key ∷ rows.keys; failing = if row.passes then rows.failing else rows.failing + 1 }

-- a row's key is above the one before, and not above the span's end
abbrev pub row_after : Bound → List ℕ → ℕ → Option Row → Checked Row
row_after end before n None = bad n NoForm
row_after end before n (Some row) = if is_within (At before) end row.key then Ok row else bad n KeyOrder

-- the rows of these lines, the first of which is the n-th and has a key above this one
abbrev pub rows_from : Bool → Bound → List ℕ → ℕ → List (List ℕ) → Checked Rows
rows_from tests end before n [] = Ok (record { keys = []; failing = 0 })
rows_from tests end before n (line ∷ lines) =
    and_then (row_after end before n (row_in tests line)) (λ row. and_then (rows_from tests end row.key (n + 1) lines) (λ rows. Ok (with_row row rows)))

-- ---- events

-- above the horizon there may be rows that weren't written
abbrev pub horizon : Last → Bound
horizon (Listed valid tried) = End
horizon (Tested valid failing tried) = End
horizon (More key) = At key
horizon (Spent key) = At key

-- how many rows have a key above a bound and not above another
abbrev pub rows_between : List (List ℕ) → Bound → Bound → ℕ
rows_between keys mark reach = length (filter (is_within mark reach) keys)

-- so many rows of a segment were written up to a reach: above the horizon, at least those that are there
abbrev pub is_written : Last → List (List ℕ) → Bound → ℕ → Segment → Bool
is_written last keys reach count s = let written = rows_between keys s.mark reach in if less (horizon last) reach then nat_le written count else written == count

abbrev pub are_written : Last → List (List ℕ) → Bound → ℕ → Option Segment → Bool
are_written last keys reach count None = false
are_written last keys reach count (Some s) = is_written last keys reach count s

-- a report's rows are those that were written
abbrev pub has_rows : Last → List (List ℕ) → State → Event → Bool
has_rows last keys s (Take seat n) = true
has_rows last keys s (Steal seat victim cut n) = true
has_rows last keys s (Report seat n reach rows tried spent) = are_written last keys reach rows (segment_of n s.segments)
has_rows last keys s (GiveUp seat n) = true
has_rows last keys s (Drain rows) = true
has_rows last keys s (StopAt mark) = true
has_rows last keys s (Look seat) = true

abbrev pub is_by : ℕ → Event → Bool
is_by workers (Take seat n) = nat_lt seat workers
is_by workers (Steal seat victim cut n) = nat_lt seat workers
is_by workers (Report seat n reach rows tried spent) = nat_lt seat workers
is_by workers (GiveUp seat n) = nat_lt seat workers
is_by workers (Drain rows) = true
is_by workers (StopAt mark) = true
is_by workers (Look seat) = nat_lt seat workers

-- an event fits and is by one of the workers, and its rows are there
abbrev pub event_after : ℕ → Last → List (List ℕ) → State → ℕ → Option Event → Checked State
event_after workers last keys s n None = bad n NoForm
event_after workers last keys s n (Some event) =
    if not (fits s event && is_by workers event) then bad n NoStep
    else if has_rows last keys s event then Ok (after s event) else bad n OtherRows

-- the state to which the events on these lines lead, the first of which is the n-th; after them the text ends
abbrev pub events_from : ℕ → Last → List (List ℕ) → State → ℕ → List (List ℕ) → Bool → Checked State
events_from workers last keys s n [] ends = if ends then Ok s else bad n NoForm
events_from workers last keys s n (line ∷ lines) ends =
    and_then (event_after workers last keys s n (event_in line)) (λ new. events_from workers last keys new (n + 1) lines ends)

-- ---- the last line

abbrev pub tried_in : State → ℕ
tried_in s = capped (s.past + sum_by (λ g. g.tried) s.segments)

-- all of the span was scanned, and none was spent
abbrev pub is_whole : Span → State → Bool
is_whole span s = not s.spent && is_same s.end (end_of span)

-- the last of these is the key
abbrev pub is_last_key : List ℕ → List (List ℕ) → Bool
is_last_key key [] = false
is_last_key key (k ∷ []) = is_same (At key) (At k)
is_last_key key (k ∷ next ∷ keys) = is_last_key key (next ∷ keys)

abbrev pub are_below : List ℕ → List (List ℕ) → Bool
are_below key keys = list_all (λ k. less (At k) (At key)) keys

-- the last line says what rows and events say
abbrev pub agrees : Span → Rows → State → Last → Bool
agrees span rows s (Listed valid tried) = (valid == length rows.keys) && ((tried == tried_in s) && is_whole span s)
agrees span rows s (Tested valid failing tried) = (valid == length rows.keys) && ((failing == rows.failing) && ((tried == tried_in s) && is_whole span s))
agrees span rows s (More key) = is_last_key key rows.keys && less (At key) s.end
agrees span rows s (Spent key) = s.spent && (is_same s.end (At key) && are_below key rows.keys)

-- ---- a text

-- After the events, the last line being the n-th: no segment has an owner or a remainder, and the last line agrees.
abbrev pub ended_with : Span → Rows → Last → ℕ → ℕ → State → Checked ℕ
ended_with span rows last n count s =
    if not (list_all is_closed s.segments) then bad (n + count + 1) Unfinished
    else if agrees span rows s last then Ok count else bad n OtherEnding

-- the last line, after so many rows, and the events after it
abbrev pub with_last : Span → ℕ → Rows → ℕ → Option Last → List (List ℕ) → Bool → Checked ℕ
with_last span workers rows n None lines ends = bad n NoForm
with_last span workers rows n (Some last) lines ends =
    and_then (events_from workers last rows.keys (opening span (cuts_for span workers)) (n + 1) lines ends) (ended_with span rows last n (length lines))

abbrev pub checked_parts : Span → ℕ → Parts → Bool → Checked ℕ
checked_parts span workers parts ends =
    and_then (rows_from (is_test parts.last) (end_of span) span.after 1 parts.rows) (λ rows. with_last span workers rows (length rows.keys + 1) parts.last parts.events ends)

-- How many events a text has, or the line and the rule that it breaks first. It is at most 16 MiB long.
unfoldable pub checked : Span → ℕ → List ℕ → Checked ℕ
checked span workers text =
    if nat_lt (2 ^ 24) (length text) then bad 1 TooLong else checked_parts span workers (parts_of (lines_in text)) (is_empty (unended text))
