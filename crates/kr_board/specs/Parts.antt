-- Between crates: what is handed to a board: parts of a survey.
use Rattle.std.specs.Prelude.{◌≡◌, ℕ, ◌^◌, ◌<◌, ◌≤◌, List, true, length}
use Rattle.kr_base.specs.declared.span.Bound.{Bound}
use Rattle.kr_base.specs.declared.span.Bound.TheVariants.{At}
use Rattle.kr_base.specs.declared.entry.Entry.{Entry}
use Rattle.kr_base.specs.Bounds.{less, is_cut}
use Rattle.kr_base.specs.Entries.{Ascends, within}
use Rattle.kr_survey.specs.declared.part.Part.{Part}
use Rattle.kr_survey.specs.Scans.{IsScan, rows_of}
use Rattle.kr_core.specs.Counts.{IsSpentFlag}

-- the part of a survey from a cut to its reach: the rows and the number of the entries there, and whether the last of them,
-- whose key the reach is then, is spent
pub record IsPart {R : Type 0} (all : List (Entry R)) (after : List ℕ) (part : Part R) : Type 0 where
  pub above : less (At after) part.reach ≡ true
  pub rows : part.rows ≡ rows_of (within (At after) part.reach all)
  pub tried : part.tried ≡ length (within (At after) part.reach all)
  pub tried_fits : part.tried < 2 ^ 64
  pub spent : IsSpentFlag part.spent part.reach (within (At after) part.reach all)

-- the part of some survey from a cut on, as far as its own numbers tell
pub record IsPossible {R : Type 0} (after : List ℕ) (part : Part R) : Type 0 where
  pub above : less (At after) part.reach ≡ true
  pub rows : length part.rows ≤ part.tried
  pub cut : part.spent ≡ true → is_cut part.reach ≡ true
  pub fewer : part.spent ≡ true → length part.rows < part.tried

-- what a scan gives is a part, and a part is possible
pub record PartLaws {R : Type 0} (all : List (Entry R)) (after : List ℕ) (part : Part R) : Type 0 where
  pub from_scan : (upto : Bound) (most : ℕ) → Ascends all → less (At after) upto ≡ true → 0 < most → most < 2 ^ 32 → IsScan all after upto most part → IsPart all after part
  pub possible : IsPart all after part → IsPossible after part

abbrev pub PartLaw : Type 0 → Type 0
PartLaw R = (all : List (Entry R)) (after : List ℕ) (part : Part R) → PartLaws all after part
