-- To be believed: giving up, draining, stopping, closing.
use Rattle.std.specs.Prelude.{◌≡◌, ℕ, ◌+◌, List, [], ◌∷◌, Bool, true, false, Option, Some, None, length, drop, if◌then◌else◌}
use Rattle.std.specs.List.{sum_by, list_all}
use Rattle.kr_base.specs.declared.span.Bound.{Bound}
use Rattle.kr_base.specs.declared.span.Bound.TheVariants.{At, End}
use Rattle.kr_base.specs.declared.span.Span.{Span}
use Rattle.kr_base.specs.declared.entry.Entry.{Entry}
use Rattle.kr_base.specs.Entries.{Ascends, within, entries_in}
use Rattle.kr_survey.specs.Listings.{spent_in}
use Rattle.kr_survey.specs.declared.part.Listing.{Listing}
use Rattle.kr_survey.specs.Joins.{joined}
use Rattle.kr_survey.specs.Scans.{rows_of}
use Rattle.kr_core.specs.declared.segment.Segment.{Segment}
use Rattle.kr_base.specs.Causes.{capped}
use Rattle.kr_core.specs.States.{State, is_closed}
use Rattle.kr_core.specs.Openings.{AreInside}
use Rattle.kr_core.specs.Rows.{drained}
use Rattle.kr_core.specs.Beside.{fronts}
use Rattle.kr_board.specs.Held.{Held}
use Rattle.kr_board.specs.Boards.{IsBoardOf}
use Rattle.kr_board.specs.declared.board.closing.Closed.{Closed}
use Rattle.kr_board.specs.declared.board.closing.Closed.TheVariants.{Listing as Listed, Unfinished}

-- no segment has an owner or a remainder
abbrev pub all_closed : State → Bool
all_closed s = list_all is_closed s.segments

-- the first segment's mark
abbrev pub mark_in : List Segment → Bound
mark_in [] = End
mark_in (g ∷ gs) = g.mark

abbrev pub first_mark : State → Bound
first_mark s = mark_in s.segments

-- the rows that a drain takes out
abbrev pub front_rows : {R : Type 0} → Held R → List R
front_rows b = joined (fronts b.core.segments b.kept)

-- where a spent entry ended the listing, its key
abbrev pub cut_of : Bound → Option (List ℕ)
cut_of (At cut) = Some cut
cut_of End = None

abbrev pub spent_key : State → Option (List ℕ)
spent_key s = if s.spent then cut_of s.end else None

-- the listing of a board: the rows kept, all that was tried, the key of the spent entry
pub record IsListing {R : Type 0} (b : Held R) (l : Listing R) : Type 0 where
  pub rows : l.rows ≡ joined b.kept
  pub tried : l.tried ≡ capped (b.core.past + sum_by (λ g. g.tried) b.core.segments)
  pub spent : l.spent ≡ spent_key b.core

-- of every survey that the board is of: the rows up to the end after those drained, the number of all entries up to the
-- end, cut after the first spent one, and the key of that, or none where there is none
pub record IsListingOf {R : Type 0} (all : List (Entry R)) (span : Span) (b : Held R) (l : Listing R) : Type 0 where
  pub rows : l.rows ≡ drop (drained b.log) (rows_of (within (At span.after) b.core.end all))
  pub tried : l.tried ≡ capped (length (entries_in (At span.after) b.core.end all))
  pub spent : l.spent ≡ spent_in (entries_in (At span.after) b.core.end all)

abbrev pub Lists : {R : Type 0} → Held R → Listing R → Type 0
Lists {R} b l =
    (all : List (Entry R)) (span : Span) (cuts : List (List ℕ)) → Ascends all → AreInside cuts span → IsBoardOf all span cuts b → IsListingOf all span b l

abbrev pub is_listing : {R : Type 0} → Closed R → Bool
is_listing (Listed l) = true
is_listing (Unfinished again) = false

-- a listing is the board's, and of every survey that it is of
abbrev pub GivesListing : {R : Type 0} → Held R → Closed R → Type 0
GivesListing b (Listed l) = IsListing b l × Lists b l
GivesListing b (Unfinished again) = Unit {0}

-- else the board is given back
abbrev pub GivesBack : {R : Type 0} → Held R → Closed R → Type 0
GivesBack b (Listed l) = Unit {0}
GivesBack b (Unfinished again) = again ≡ b
