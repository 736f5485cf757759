-- To be believed: entries with their rows made into others: keys, marks and order stay.
use Rattle.std.specs.Prelude.{◌≡◌, List, length, map}
use Rattle.kr_base.specs.declared.span.Bound.{Bound}
use Rattle.kr_base.specs.declared.entry.Mark.{Mark}
use Rattle.kr_base.specs.declared.entry.Mark.TheVariants.{Valid, Invalid, Spent}
use Rattle.kr_base.specs.declared.entry.Entry.{Entry}
use Rattle.kr_base.specs.Entries.{entries_in}
use Rattle.kr_survey.specs.declared.part.Part.{Part}
use Rattle.kr_survey.specs.Scans.{rows_of}

abbrev pub mark_by : {R T : Type 0} → (R → T) → Mark R → Mark T
mark_by f (Valid row) = Valid (f row)
mark_by f Invalid = Invalid
mark_by f Spent = Spent

abbrev pub entry_by : {R T : Type 0} → (R → T) → Entry R → Entry T
entry_by f e = record { key = e.key; mark = mark_by f e.mark }

abbrev pub entries_by : {R T : Type 0} → (R → T) → List (Entry R) → List (Entry T)
entries_by f es = map (entry_by f) es

-- what a scan gave, with its rows made so
pub record IsMade {R T : Type 0} (f : R → T) (part : Part R) (made : Part T) : Type 0 where
  pub reach : made.reach ≡ part.reach
  pub rows : made.rows ≡ map f part.rows
  pub tried : made.tried ≡ part.tried
  pub spent : made.spent ≡ part.spent

-- what is said of the entries so made
pub record AreAlike {R T : Type 0} (f : R → T) (es : List (Entry R)) : Type 0 where
  pub span : (a b : Bound) → entries_in a b (entries_by f es) ≡ entries_by f (entries_in a b es)
  pub rows : rows_of (entries_by f es) ≡ map f (rows_of es)
  pub number : length (entries_by f es) ≡ length es

abbrev pub MappedLaw : Type 0 → Type 0 → Type 0
MappedLaw R T = (f : R → T) (es : List (Entry R)) → AreAlike f es
