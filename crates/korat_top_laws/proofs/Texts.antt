-- The text of a traced listing is accepted.
use Rattle.std.proofs.Common.{◌≡◌, ℕ, suc, ◌+◌, ◌^◌, ◌<◌, ◌≤◌, List, [], ◌∷◌, ◌++◌, Bool, true, false, length, refl, sym, ap, ◌∙◌, subst, arith, append_assoc, append-nil, nat_lt}
use Rattle.std.specs.Prelude.{Option, Some, None, Result, Ok, flat_map, not, if◌then◌else◌}
use Rattle.std.specs.List.{list_all}
use Rattle.std.proofs.lemmas.Bool.Decides.{nat_tests}
use Rattle.kr_base.specs.declared.span.Span.{Span}
use Rattle.kr_base.specs.declared.span.Bound.{Bound}
use Rattle.kr_text.specs.Splitting.{IsWithout, ended, is_empty, lines_in, unended}
use Rattle.kr_core.specs.declared.event.Event.{Event}
use Rattle.kr_core.specs.States.{State, is_closed}
use Rattle.kr_core.specs.Cutting.{cuts_for}
use Rattle.kr_core.specs.Openings.{end_of, opening}
use Rattle.kr_core.specs.Steps.{after}
use Rattle.kr_report_streaming.specs.Traces.{event_text, trace_text}
use Rattle.kr_trace.specs.declared.ending.Last.{Last}
use Rattle.kr_trace.specs.declared.row.Row.{Row}
use Rattle.kr_trace.specs.declared.refusal.TraceRule.TheVariants.{TooLong, OtherEnding, Unfinished}
use Rattle.kr_trace.specs.Words.{last_in}
use Rattle.kr_trace.specs.Checked.{Checked, Parts, Rows, agrees, and_then, bad, checked, checked_parts, ended_with, events_from, in_front, is_test, parted_by, parts_of, rows_from, with_last}
use Rattle.korat_top_laws.specs.Printed.{Accepts, IsPrintable, IsReadBack}
use Rattle.korat_top_laws.specs.Texts.{AreRows, IsTraced, TextLaw, text_of}
use Rattle.korat_top_laws.proofs.Lines.{event_back}
use Rattle.korat_top_laws.proofs.Logs.{first_lines, log_back, same_end}

-- ---- lines of the text

rows_lines : (rows : List (List ℕ)) (rest : List ℕ) → AreRows rows → lines_in (flat_map ended rows ++ rest) ≡ rows ++ lines_in rest
rows_lines [] rest h = refl
rows_lines (line ∷ lines) rest h =
    ap lines_in (append_assoc (ended line) (flat_map ended lines) rest)
    ∙ (first_lines (ended line) line (flat_map ended lines ++ rest) refl h.0
    ∙ ap (λ (ls : List (List ℕ)). line ∷ ls) (rows_lines lines rest h.2))

rows_end : (rows : List (List ℕ)) (rest : List ℕ) → AreRows rows → unended (flat_map ended rows ++ rest) ≡ unended rest
rows_end [] rest h = refl
rows_end (line ∷ lines) rest h =
    ap unended (append_assoc (ended line) (flat_map ended lines) rest)
    ∙ (same_end (ended line) line (flat_map ended lines ++ rest) refl h.0 ∙ rows_end lines rest h.2)

rows_part : (rows : List (List ℕ)) (lines : List (List ℕ)) → AreRows rows → parts_of (rows ++ lines) ≡ record (parts_of lines) { rows = rows ++ (parts_of lines).rows }
rows_part [] lines h = refl
rows_part (line ∷ rows) lines h =
    ap (λ (o : Option Last). parted_by o line (rows ++ lines) (parts_of (rows ++ lines))) h.1
    ∙ ap (in_front line) (rows_part rows lines h.2)

last_part : (line : List ℕ) (last : Last) (lines : List (List ℕ)) → last_in line ≡ Some last → parts_of (line ∷ lines) ≡ record { rows = []; last = Some last; events = lines }
last_part line last lines is = ap (λ (o : Option Last). parted_by o line lines (parts_of lines)) is

log_count : (workers : ℕ) (last : Last) (keys : List (List ℕ)) (s new : State) (log : List Event) → Accepts workers last keys s log new → length (lines_in (trace_text log)) ≡ length log
log_count workers last keys s new [] h = refl
log_count workers last keys s new (event ∷ log) h =
    let back : IsReadBack event = event_back event h.0 in
    ap length (first_lines (event_text event) back.line (trace_text log) back.text back.one) ∙ ap suc (log_count workers last keys (after s event) new log h.4)

short : (n : ℕ) (m : ℕ) → n ≤ m → nat_lt m n ≡ false
short n m h = grind (arith, nat_tests)

-- ---- together

ends_well : (span : Span) (rows : Rows) (last : Last) (n count : ℕ) (s : State) → list_all is_closed s.segments ≡ true → agrees span rows s last ≡ true → ended_with span rows last n count s ≡ Ok count
ends_well span rows last n count s closed says =
    ap (λ (b : Bool). if not b then bad (n + count + 1) Unfinished else if agrees span rows s last then Ok count else bad n OtherEnding) closed
    ∙ ap (λ (b : Bool). if b then Ok count else bad n OtherEnding) says

-- the parts, as they are checked
parts_pass : (span : Span) (workers : ℕ) (rows : List (List ℕ)) (line : List ℕ) (log : List Event) (h : IsTraced span workers rows line log)
    → checked_parts span workers (record { rows = rows; last = Some h.last; events = lines_in (trace_text log) }) (is_empty (unended (trace_text log))) ≡ Ok (length log)
parts_pass span workers rows line log h =
    let n = length h.read.keys + 1 in
    let count = length (lines_in (trace_text log)) in
    ap (λ (r : Checked Rows). and_then r (λ rows. with_last span workers rows (length rows.keys + 1) (Some h.last) (lines_in (trace_text log)) (is_empty (unended (trace_text log))))) h.are_read
    ∙ (ap (λ (r : Checked State). and_then r (ended_with span h.read h.last n count))
    (log_back workers h.last h.read.keys (opening span (cuts_for span workers)) h.new log (n + 1) h.accepts)
    ∙ (ends_well span h.read h.last n count h.new h.closed h.says
    ∙ ap Ok (log_count workers h.last h.read.keys (opening span (cuts_for span workers)) h.new log h.accepts)))

pub traced : TextLaw
unfolding checked
traced span workers rows line log h few =
    let rest = ended line ++ trace_text log in
    let after : lines_in rest ≡ line ∷ lines_in (trace_text log) = first_lines (ended line) line (trace_text log) refl h.one_line in
    let lines : lines_in (text_of rows line log) ≡ rows ++ line ∷ lines_in (trace_text log) =
    rows_lines rows rest h.are_rows ∙ ap (λ (ls : List (List ℕ)). rows ++ ls) after in
    let ends : unended (text_of rows line log) ≡ unended (trace_text log) = rows_end rows rest h.are_rows ∙ same_end (ended line) line (trace_text log) refl h.one_line in
    let parts : parts_of (lines_in (text_of rows line log)) ≡ record { rows = rows; last = Some h.last; events = lines_in (trace_text log) } =
    ap parts_of lines
    ∙ (rows_part rows (line ∷ lines_in (trace_text log)) h.are_rows
    ∙ (ap (λ (p : Parts). record p { rows = rows ++ p.rows }) (last_part line h.last (lines_in (trace_text log)) h.is_last)
    ∙ ap (λ (ls : List (List ℕ)). record { rows = ls; last = Some h.last; events = lines_in (trace_text log) }) (append-nil rows))) in
    ap (λ (b : Bool). if b then bad 1 TooLong else checked_parts span workers (parts_of (lines_in (text_of rows line log))) (is_empty (unended (text_of rows line log)))) (short (length (text_of rows line log)) (2 ^ 24) few)
    ∙ (ap (λ (p : Parts). checked_parts span workers p (is_empty (unended (text_of rows line log)))) parts
    ∙ (ap (λ (t : List ℕ). checked_parts span workers (record { rows = rows; last = Some h.last; events = lines_in (trace_text log) }) (is_empty t)) ends
    ∙ parts_pass span workers rows line log h))
