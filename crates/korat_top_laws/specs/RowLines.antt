-- To be believed: the line of a row, listed or tested, is read as its key and as whether it passes.
use Rattle.std.specs.Prelude.{◌≡◌, ℕ, ◌^◌, ◌<◌, List, ◌++◌, codes, length, not, Option, Some, None, is_some}
use Rattle.kr_base.specs.Cuts.{cut_text}
use Rattle.kr_classes_table.specs.Table.{Heading}
use Rattle.kr_mean.specs.declared.kind.Verdict.{Verdict}
use Rattle.kr_mean.specs.declared.kind.Verdict.TheVariants.{Pass, Ensures, Signals, RepOk, Trap, CheckTrap, Spent as OutOfFuel}
use Rattle.kr_report.specs.Reports.{is_failing}
use Rattle.kr_report.specs.Texts.{trap_text, verdict_text}
use Rattle.kr_text.specs.Splitting.{IsWithout}
use Rattle.korat_top_laws.specs.Listings.{IsLineOf}
use Rattle.korat_top_laws.specs.Printed.{IsShown}

-- the line of a row: its key, the verdict of a test, and the text of its structure
abbrev pub row_line : List Heading → List ℕ → Option Verdict → List ℕ → List ℕ
row_line classes key verdict structure = cut_text key ++ codes " " ++ verdict_text classes verdict ++ structure

-- a text of one word, in one line
pub record IsOneWord (text : List ℕ) : Type 0 where
  pub some : 0 < length text
  pub one_word : IsWithout 32 text
  pub one_line : IsWithout 10 text

-- the number of a condition, from 1 on, has 32 bits, and the name of a kind is a word
abbrev pub IsWritable : List Heading → Option Verdict → Type 0
IsWritable classes None = Unit {0}
IsWritable classes (Some Pass) = Unit {0}
IsWritable classes (Some (Ensures n)) = (0 < n) × (n < 2 ^ 32)
IsWritable classes (Some (Signals n)) = (0 < n) × (n < 2 ^ 32)
IsWritable classes (Some RepOk) = Unit {0}
IsWritable classes (Some (Trap kind)) = IsOneWord (trap_text classes kind)
IsWritable classes (Some (CheckTrap kind)) = IsOneWord (trap_text classes kind)
IsWritable classes (Some OutOfFuel) = Unit {0}

-- with a structure whose text is one line and not empty
abbrev pub RowLaw : Type 0
RowLaw = (classes : List Heading) (key : List ℕ) (verdict : Option Verdict) (structure : List ℕ) → IsShown key → IsWritable classes verdict → 0 < length structure → IsWithout 10 structure →
    IsLineOf (is_some verdict) (record { key = key; passes = not (is_failing verdict) }) (row_line classes key verdict structure)
