-- Between crates: entries of a problem whose lines are read.
use Rattle.std.specs.Prelude.{◌≡◌, ℕ, ◌<◌, List, [], ◌∷◌, Bool, true, false, length, is_some}
use Rattle.kr_base.specs.declared.entry.Entry.{Entry}
use Rattle.kr_base.specs.declared.entry.Mark.{Mark}
use Rattle.kr_base.specs.declared.entry.Mark.TheVariants.{Valid, Invalid, Spent}
use Rattle.kr_mean.specs.Problem.{Problem}
use Rattle.kr_mean.specs.declared.mode.Mode.{Mode}
use Rattle.kr_mean.specs.declared.mode.Mode.TheVariants.{List as Listing, Method as Testing}
use Rattle.kr_mean.specs.declared.row.Row.{Row}
use Rattle.kr_report.specs.Texts.{structure_text}
use Rattle.kr_text.specs.Splitting.{IsWithout}
use Rattle.kr_pool_desk.specs.Short.{IsShort}
use Rattle.korat_top_laws.specs.RowLines.{IsWritable}

-- whether the mode is a test
abbrev pub IsModeOf : Bool → Mode → Type 0
IsModeOf false Listing = Unit {0}
IsModeOf false (Testing n) = ⊥
IsModeOf true Listing = ⊥
IsModeOf true (Testing n) = Unit {0}

-- the row has this key, and a verdict where it is of a test; its structure has a text, in one line
abbrev pub IsReadableRow : Problem → Bool → List ℕ → Mark Row → Type 0
IsReadableRow problem tests key (Valid row) =
    (row.key ≡ key) × (is_some row.verdict ≡ tests) × IsWritable problem.program.table.headings row.verdict × (0 < length (structure_text problem row.structure)) × IsWithout 10 (structure_text problem row.structure)
IsReadableRow problem tests key Invalid = Unit {0}
IsReadableRow problem tests key Spent = Unit {0}

pub record IsReadable (problem : Problem) (tests : Bool) (e : Entry Row) : Type 0 where
  pub some : 0 < length e.key
  pub short : IsShort e.key
  pub row : IsReadableRow problem tests e.key e.mark

abbrev pub AreReadable : Problem → Bool → List (Entry Row) → Type 0
AreReadable problem tests [] = Unit {0}
AreReadable problem tests (e ∷ es) = IsReadable problem tests e × AreReadable problem tests es
