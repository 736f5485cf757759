-- Between crates: rows kept as they come.
use Rattle.std.specs.Prelude.{◌≡◌, List, ◌++◌, Option, Some, length}
use Rattle.kr_base.specs.Causes.{capped}
use Rattle.kr_base.specs.declared.entry.Entry.{Entry}
use Rattle.kr_survey.specs.Joins.{joined, lists}
use Rattle.kr_survey.specs.Listings.{spent_in}
use Rattle.kr_survey.specs.Scans.{rows_of}
use Rattle.kr_survey.specs.declared.taker.End.{End}
use Rattle.kr_survey.specs.declared.taker.End.TheVariants.{Whole, Full}
use Rattle.kr_survey.specs.declared.taker.Room.{Room}
use Rattle.kr_survey.specs.declared.taker.Room.TheVariants.{More}
use Rattle.kr_pool.specs.declared.collector.Collector.{Collector}

-- the rows that it had, and these after them; it takes more
abbrev pub Collects : {R : Type 0} → Collector R → List R → Collector R → Option Room → Type 0
Collects a rows b room = (joined (lists b.pieces.items) ≡ joined (lists a.pieces.items) ++ rows) × (room ≡ Some More)

-- all rows of these entries were kept, with their number and the spent key
abbrev pub Collected : {R : Type 0} → List (Entry R) → Collector R → End → Type 0
Collected es c (Whole tried spent) = (joined (lists c.pieces.items) ≡ rows_of es) × (tried ≡ capped (length es)) × (spent ≡ spent_in es)
Collected es c Full = ⊥
