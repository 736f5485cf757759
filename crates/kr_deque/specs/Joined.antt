-- To be believed: what the joining of pieces answers.
use Rattle.std.specs.Prelude.{◌≡◌, ℕ, List, [], ◌∷◌, map, All, IsPermutation, Result, Ok, Err, true}
use Rattle.kr_base.specs.declared.span.Bound.TheVariants.{At}
use Rattle.kr_base.specs.declared.span.Span.{Span}
use Rattle.kr_base.specs.declared.entry.Entry.{Entry}
use Rattle.kr_base.specs.Entries.{Ascends}
use Rattle.kr_survey.specs.declared.part.Listing.{Listing}
use Rattle.kr_survey.specs.declared.piece.Piece.{Piece}
use Rattle.kr_deque.specs.declared.joining.JoinRefusal.{JoinRefusal}
use Rattle.kr_survey.specs.Spans.{is_ahead, AreParts, Adjoins}
use Rattle.kr_deque_hands.specs.Pieces.{spans_of, AllAhead, ArePiecesOf}
use Rattle.kr_deque.specs.Breaks.{Refuses, NoBreak}
use Rattle.kr_survey.specs.Listings.{listed_in, Lists, IsPieceOf, IsListingOf}

-- No break is anywhere: in order of span the pieces adjoin from the asked start to the asked end, and this is their listing.
pub record IsJoined {R : Type 0} (asked : Span) (pieces : List (Piece R)) (l : Listing R) : Type 0 where
  pub none : NoBreak asked (spans_of pieces)
  pub ordered : List (Piece R)
  pub same : IsPermutation pieces ordered
  pub adjoin : Adjoins (At asked.after) (spans_of ordered) asked.upto
  pub listing : IsListingOf ordered l

-- the listing, or the first break
abbrev pub Joins : {R : Type 0} → Span → List (Piece R) → Result (Listing R) JoinRefusal → Type 0
Joins asked pieces (Ok listing) = IsJoined asked pieces listing
Joins asked pieces (Err refusal) = Refuses asked (spans_of pieces) refusal

-- spans that cover each key of the asked one exactly once, and no other, have no gap and no double
abbrev pub PartsLaw : Type 0
PartsLaw = (asked : Span) (spans : List Span) → is_ahead asked ≡ true → AllAhead spans → AreParts spans asked → NoBreak asked spans

-- pieces of a survey, joined, give the survey's listing of the asked span
abbrev pub JoinedLaw : Type 0 → Type 0
JoinedLaw R = (all : List (Entry R)) (asked : Span) (pieces : List (Piece R)) (l : Listing R) → Ascends all → is_ahead asked ≡ true → AllAhead (spans_of pieces) → ArePiecesOf all pieces
    → IsJoined asked pieces l → Lists (listed_in all asked) l
