-- To be believed: the listing of a span, of a survey's entries and of pieces.
use Rattle.kr_base.specs.Causes.{capped}
use Rattle.std.specs.Prelude.{◌≡◌, ℕ, ◌+◌, List, [], ◌∷◌, ◌++◌, Option, Some, None, is_some, length, if◌then◌else◌}
use Rattle.kr_base.specs.declared.span.Bound.TheVariants.{At}
use Rattle.kr_base.specs.declared.span.Span.{Span}
use Rattle.kr_base.specs.declared.entry.Entry.{Entry}
use Rattle.kr_base.specs.Causes.{capped}
use Rattle.kr_base.specs.Entries.{is_spent, entries_in}
use Rattle.kr_survey.specs.declared.part.Listing.{Listing}
use Rattle.kr_survey.specs.Scans.{rows_of}
use Rattle.kr_survey.specs.declared.piece.Piece.{Piece}

-- the key of the first spent entry
abbrev pub spent_in : {R : Type 0} → List (Entry R) → Option (List ℕ)
spent_in [] = None
spent_in (e ∷ es) = if is_spent e.mark then Some e.key else spent_in es

-- the entries of a span: up to and with the first spent one
abbrev pub listed_in : {R : Type 0} → List (Entry R) → Span → List (Entry R)
listed_in all span = entries_in (At span.after) span.upto all

-- rows, number and spent key of these entries
pub record Lists {R : Type 0} (es : List (Entry R)) (l : Listing R) : Type 0 where
  pub rows : l.rows ≡ rows_of es
  pub tried : l.tried ≡ capped (length es)
  pub spent : l.spent ≡ spent_in es

-- a piece has rows, number and spent key of the entries of its span
pub record IsPieceOf {R : Type 0} (all : List (Entry R)) (p : Piece R) : Type 0 where
  pub rows : p.rows ≡ rows_of (listed_in all p.span)
  pub tried : p.tried ≡ length (listed_in all p.span)
  pub spent : p.spent ≡ spent_in (listed_in all p.span)

-- the pieces up to and with the first that is spent
abbrev pub through : {R : Type 0} → List (Piece R) → List (Piece R)
through [] = []
through (p ∷ ps) = p ∷ (if is_some p.spent then [] else through ps)

-- their rows, their numbers added up, and the last one's key
abbrev pub rows_in : {R : Type 0} → List (Piece R) → List R
rows_in [] = []
rows_in (p ∷ ps) = p.rows ++ rows_in ps

abbrev pub tried_in : {R : Type 0} → List (Piece R) → ℕ
tried_in [] = 0
tried_in (p ∷ ps) = p.tried + tried_in ps

abbrev pub key_in : {R : Type 0} → List (Piece R) → Option (List ℕ)
key_in [] = None
key_in (p ∷ ps) = if is_some p.spent then p.spent else key_in ps

-- the listing of pieces in their order, cut after the first that is spent
pub record IsListingOf {R : Type 0} (ps : List (Piece R)) (l : Listing R) : Type 0 where
  pub rows : l.rows ≡ rows_in (through ps)
  pub tried : l.tried ≡ capped (tried_in (through ps))
  pub spent : l.spent ≡ key_in (through ps)
