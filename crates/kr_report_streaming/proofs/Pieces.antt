-- Texts that are put in pieces.
use Rattle.std.proofs.Common.{◌≡◌, ℕ, ◌+◌, ◌<◌, List, [], ◌++◌, length, drop, sym, ap, ◌∙◌, append_assoc, append-nil, get_or, add-one, drop-cons}
use Rattle.kr_core.specs.declared.event.Event.{Event}
use Rattle.kr_report_streaming.specs.Traces.{event_text, trace_text}

pub three_pieces : (a b c x : List ℕ) → x ≡ b → a ++ (x ++ (c ++ [])) ≡ a ++ (b ++ c)
three_pieces a b c x p = ap (λ t. a ++ (t ++ (c ++ []))) p ∙ ap (λ t. a ++ (b ++ t)) (append-nil c)

pub five_pieces : (a b c d e x y : List ℕ) → x ≡ b → y ≡ d → a ++ (x ++ (c ++ (y ++ (e ++ [])))) ≡ a ++ (b ++ (c ++ (d ++ e)))
five_pieces a b c d e x y p q =
    ap (λ t. a ++ (t ++ (c ++ (y ++ (e ++ []))))) p ∙ (ap (λ t. a ++ (b ++ (c ++ (t ++ (e ++ []))))) q ∙ ap (λ t. a ++ (b ++ (c ++ (d ++ t)))) (append-nil e))

-- the text from an event on is its line and the text after it
trace_drop : (es : List Event) (i : ℕ) (d : Event) → i < length es → trace_text (drop i es) ≡ event_text (get_or es i d) ++ trace_text (drop (i + 1) es)
trace_drop es i d h = rw (add-one, drop-cons es i d)

pub sent_more : (es : List Event) (i : ℕ) (e : Event) → e ≡ get_or es i e → (sent : List ℕ) → i < length es → trace_text es ≡ sent ++ trace_text (drop i es)
    → trace_text es ≡ (sent ++ event_text e) ++ trace_text (drop (i + 1) es)
sent_more es i e is sent h all =
    let there : trace_text (drop i es) ≡ event_text e ++ trace_text (drop (i + 1) es) = trace_drop es i e h ∙ ap (λ (x : Event). event_text x ++ trace_text (drop (i + 1) es)) (sym is) in
    all ∙ (ap (λ t. sent ++ t) there ∙ sym (append_assoc sent (event_text e) (trace_text (drop (i + 1) es))))
