-- Between crates: pieces of a survey, and the spans that they cover.
use Rattle.std.specs.Prelude.{◌≡◌, List, [], ◌∷◌, map, true}
use Rattle.kr_base.specs.declared.span.Span.{Span}
use Rattle.kr_base.specs.declared.entry.Entry.{Entry}
use Rattle.kr_survey.specs.declared.piece.Piece.{Piece}
use Rattle.kr_survey.specs.Listings.{IsPieceOf}
use Rattle.kr_survey.specs.Spans.{is_ahead}

abbrev pub spans_of : {R : Type 0} → List (Piece R) → List Span
spans_of ps = map (λ p. p.span) ps

-- each begins before it ends
abbrev pub AllAhead : List Span → Type 0
AllAhead [] = Unit {0}
AllAhead (s ∷ ss) = (is_ahead s ≡ true) × AllAhead ss

abbrev pub ArePiecesOf : {R : Type 0} → List (Entry R) → List (Piece R) → Type 0
ArePiecesOf all [] = Unit {0}
ArePiecesOf all (p ∷ ps) = IsPieceOf all p × ArePiecesOf all ps
