-- The lines of a log are read as the log.
use Rattle.std.proofs.Common.{◌≡◌, ℕ, ◌+◌, ◌<◌, List, [], ◌∷◌, ◌++◌, Bool, true, false, refl, sym, ap, ◌∙◌, subst, append_assoc, append-nil}
use Rattle.std.specs.Prelude.{Option, Some, None, Ok, codes}
use Rattle.kr_text.specs.Splitting.{IsWithout, ended, is_empty, lines_in, unended}
use Rattle.kr_text.proofs.Splits.{lines_of_line, unended_after}
use Rattle.kr_core.specs.declared.event.Event.{Event}
use Rattle.kr_core.specs.States.{State}
use Rattle.kr_core.specs.Steps.{after, fits}
use Rattle.kr_report_streaming.specs.Traces.{event_text, trace_text}
use Rattle.kr_trace.specs.declared.ending.Last.{Last}
use Rattle.kr_trace.specs.Words.{event_in}
use Rattle.kr_trace.specs.Checked.{Checked, and_then, event_after, events_from, has_rows, is_by}
use Rattle.kr_trace.proofs.Logs.{judged}
use Rattle.korat_top_laws.specs.Printed.{Accepts, EventLaw, IsReadBack, LogLaw}
use Rattle.korat_top_laws.proofs.Lines.{event_back}

-- a line, and the lines after it
first_text : (text line rest : List ℕ) → text ≡ ended line → text ++ rest ≡ line ++ 10 ∷ rest
first_text text line rest is = ap (λ (t : List ℕ). t ++ rest) is ∙ append_assoc line (10 ∷ []) rest

pub first_lines : (text line rest : List ℕ) → text ≡ ended line → IsWithout 10 line → lines_in (text ++ rest) ≡ line ∷ lines_in rest
first_lines text line rest is one = ap lines_in (first_text text line rest is) ∙ lines_of_line line rest one

pub same_end : (text line rest : List ℕ) → text ≡ ended line → IsWithout 10 line → unended (text ++ rest) ≡ unended rest
same_end text line rest is one =
    unended_after (line ∷ []) (text ++ rest) rest (ap (λ (t : List ℕ). t ++ rest) (is ∙ sym (append-nil (ended line)))) (first_lines text line rest is one)

pub log_back : LogLaw
log_back workers last keys s new [] n h = ap Ok (sym h)
log_back workers last keys s new (event ∷ events) n h =
    let back : IsReadBack event = event_back event h.0 in
    let rest = trace_text events in
    let lines = first_lines (event_text event) back.line rest back.text back.one in
    let ends = ap is_empty (same_end (event_text event) back.line rest back.text back.one) in
    let taken : event_after workers last keys s n (event_in back.line) ≡ Ok (after s event) =
    ap (event_after workers last keys s n) back.read ∙ judged workers last keys s n event h.1 h.2 h.3 in
    ap (λ (ls : List (List ℕ)). events_from workers last keys s n ls (is_empty (unended (event_text event ++ rest)))) lines
    ∙ (ap (λ (e : Bool). events_from workers last keys s n (back.line ∷ lines_in rest) e) ends
    ∙ (ap (λ (r : Checked State). and_then r (λ state. events_from workers last keys state (n + 1) (lines_in rest) (is_empty (unended rest)))) taken
    ∙ log_back workers last keys (after s event) new events (n + 1) h.4))
