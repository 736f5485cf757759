-- Between crates: problems whose entries have lines.
use Rattle.std.specs.Prelude.{◌≡◌, ℕ, ◌^◌, ◌<◌, ◌≤◌, List, length}
use Rattle.std.specs.List.{AllByRecursion}
use Rattle.kr_base.specs.declared.entry.Entry.{Entry}
use Rattle.kr_base.specs.declared.entry.Mark.{Mark}
use Rattle.kr_base.specs.declared.entry.Mark.TheVariants.{Valid, Invalid, Spent}
use Rattle.kr_base.specs.Entries.{IsAmong}
use Rattle.kr_classes_table.specs.Table.{fields_of}
use Rattle.kr_mean.specs.Entries.{all_entries}
use Rattle.kr_mean.specs.Problem.{Problem, choices_at, slots}
use Rattle.kr_mean.specs.Verdicts.{verdict_of}
use Rattle.kr_mean.specs.WellFormed.{IsWellFormed}
use Rattle.kr_mean.specs.declared.mode.Mode.{Mode}
use Rattle.kr_mean.specs.declared.mode.Mode.TheVariants.{List as Listing}
use Rattle.kr_mean.specs.declared.row.Row.{Row}
use Rattle.kr_laws_never_stuck.specs.Accepted.{IsAccepted}
use Rattle.kr_report.specs.Texts.{structure_text, tested_parameters}
use Rattle.kr_shard_laws.specs.Listings.{IsCut, IsListing}
use Rattle.kr_text.specs.Splitting.{IsWithout}

-- A problem with no line feed in a name of a class domain, of a field or of a parameter of the method under test, at most 4,096 slots,
-- and fewer than 2^32 values for each.
pub record MakesLines (problem : Problem) : Type 0 where
  pub formed : IsWellFormed problem
  pub few : length (slots problem) ≤ 4096
  pub small : (s : ℕ) → s < length (slots problem) → length (choices_at problem s) < 2 ^ 32
  pub domains : AllByRecursion (λ d. IsWithout 10 d.name) problem.domains
  pub fields : (c : ℕ) → AllByRecursion (λ f. IsWithout 10 f.name) (fields_of problem.program.table c)
  pub parameters : AllByRecursion (λ name. IsWithout 10 name) (tested_parameters problem)

-- a row of this key, with the verdict of some vector; its structure has a text, in one line
pub record HasLine (problem : Problem) (key : List ℕ) (row : Row) : Type 0 where
  pub key_is : row.key ≡ key
  pub vector : List ℕ
  pub verdict : row.verdict ≡ verdict_of problem vector
  pub some : 0 < length (structure_text problem row.structure)
  pub line : IsWithout 10 (structure_text problem row.structure)

abbrev pub IsLineAt : Problem → List ℕ → Mark Row → Type 0
IsLineAt problem key (Valid row) = HasLine problem key row
IsLineAt problem key Invalid = Unit {0}
IsLineAt problem key Spent = Unit {0}

-- An entry whose key is a cut's, with at least one number, and whose row has a line.
pub record IsLined (problem : Problem) (e : Entry Row) : Type 0 where
  pub some : 0 < length e.key
  pub cut : IsCut e.key
  pub row : IsLineAt problem e.key e.mark

abbrev pub LinesLaw : Type 0
LinesLaw = (problem : Problem) → MakesLines problem → (e : Entry Row) → IsAmong e (all_entries problem) → IsLined problem e

-- of a listing's problem they are those of a listing
abbrev pub EntriesLaw : Type 0
EntriesLaw = (problem : Problem) → problem.mode ≡ Listing → MakesLines problem → IsListing problem (all_entries problem)

-- What sources and the bytes of a finitization give, for a listing or a test, is such a problem.
abbrev pub AcceptedLinesLaw : Type 0
AcceptedLinesLaw = (sources : List (List ℕ)) (bytes : List ℕ) (mode : Mode) (problem : Problem) → IsAccepted sources bytes mode problem → MakesLines problem
