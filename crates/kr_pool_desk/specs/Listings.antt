-- To be believed: what is left of the listing of a span.
use Rattle.std.specs.Prelude.{◌≡◌, ℕ, List, length, drop}
use Rattle.kr_base.specs.Causes.{capped}
use Rattle.kr_base.specs.declared.entry.Entry.{Entry}
use Rattle.kr_survey.specs.Listings.{spent_in}
use Rattle.kr_survey.specs.Scans.{rows_of}
use Rattle.kr_survey.specs.declared.part.Listing.{Listing}

-- of these entries: the rows after so many that were taken out before, the number of all, and the spent key
pub record ListsFrom {R : Type 0} (d : ℕ) (es : List (Entry R)) (l : Listing R) : Type 0 where
  pub rows : l.rows ≡ drop d (rows_of es)
  pub tried : l.tried ≡ capped (length es)
  pub spent : l.spent ≡ spent_in es
