-- A piece more whose span begins before it ends.
use Rattle.std.proofs.Common.{◌≡◌, List, [], ◌∷◌, ◌++◌, true, sym, subst}
use Rattle.std.proofs.lemmas.List.{map-append}
use Rattle.kr_base.specs.declared.span.Span.{Span}
use Rattle.kr_survey.specs.declared.piece.Piece.{Piece}
use Rattle.kr_survey.specs.Spans.{is_ahead}
use Rattle.kr_deque_hands.specs.Pieces.{AllAhead, spans_of}
use Rattle.kr_deque_hands.proofs.Carrying.{ahead_append}

pub pieces_more : {R : Type 0} (old new : List (Piece R)) (piece : Piece R) (span : Span) → new ≡ old ++ piece ∷ [] → piece.span ≡ span → is_ahead span ≡ true → AllAhead (spans_of old) → AllAhead (spans_of new)
pieces_more {R} old new piece span e s a h =
    subst (λ (ps : List (Piece R)). AllAhead (spans_of ps)) (sym e)
    (subst AllAhead (sym (map-append (λ (p : Piece R). p.span) old (piece ∷ [])))
    (ahead_append (spans_of old) (piece.span ∷ []) h (subst (λ (x : Span). is_ahead x ≡ true) (sym s) a, tt)))
