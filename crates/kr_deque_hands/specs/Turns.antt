-- Between crates: a span that is worked on.
use Rattle.std.specs.Prelude.{◌≡◌, ℕ, List, [], ◌∷◌, Bool, true, false, Option, Some, None, Result, Ok, Err}
use Rattle.kr_base.specs.declared.span.Bound.{Bound}
use Rattle.kr_base.specs.declared.span.Bound.TheVariants.{At}
use Rattle.kr_base.specs.declared.span.Span.{Span}
use Rattle.kr_base.specs.Bounds.{less}
use Rattle.kr_survey.specs.declared.part.Part.{Part}
use Rattle.kr_survey.specs.declared.piece.Piece.{Piece}
use Rattle.kr_survey.specs.Spans.{is_ahead}

-- a span is its first part, and a second one that goes on where the first one ends, or none
abbrev pub Splits : Span → Span → Option Span → Type 0
Splits whole first None = first ≡ whole
Splits whole first (Some rest) = (first.after ≡ whole.after) × (first.upto ≡ At rest.after) × (rest.upto ≡ whole.upto) × (is_ahead first ≡ true) × (is_ahead rest ≡ true)

-- the same of two spans
abbrev pub Halves : Span → Option (Span × Span) → Type 0
Halves whole None = Unit {0}
Halves whole (Some two) = Splits whole two.0 (Some two.1)

-- where a scan came to is where a piece ends, and what is left begins there; or the piece is of the whole span
abbrev pub Parts : Span → Bound → Span → Option Span → Type 0
Parts whole reach first None = (first ≡ whole) × (less reach whole.upto ≡ false)
Parts whole reach first (Some rest) = (first.after ≡ whole.after) × (first.upto ≡ reach) × (reach ≡ At rest.after) × (rest.upto ≡ whole.upto) × (less reach whole.upto ≡ true)

-- a piece has what a scan found; with a spent entry it is of the whole span, and that is the end
abbrev pub Ends : Bool → Span → Bound → Option (List ℕ) → Span → Option Span → Type 0
Ends true whole reach spent first rest = ((key : List ℕ) × (reach ≡ At key) × (spent ≡ Some key)) × (first ≡ whole) × (rest ≡ None)
Ends false whole reach spent first rest = (spent ≡ None) × Parts whole reach first rest

pub record IsPart {R : Type 0} (whole : Span) (part : Part R) (piece : Piece R) (rest : Option Span) : Type 0 where
  pub rows : piece.rows ≡ part.rows
  pub tried : piece.tried ≡ part.tried
  pub ends : Ends part.spent whole part.reach piece.spent piece.span rest

abbrev pub listed : Option Span → List Span
listed None = []
listed (Some s) = s ∷ []

-- what a worker has in hand after a turn
abbrev pub in_hand : {E : Type 0} → Result (Option Span) E → List Span
in_hand (Ok rest) = listed rest
in_hand (Err why) = []
