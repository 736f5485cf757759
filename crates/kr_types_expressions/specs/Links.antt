-- Between crates: lists of values, by the links that are kept of them.
use Rattle.std.specs.Prelude.{◌≡◌, ℕ, List}
use Rattle.kr_classes_table.specs.Types.{JavaType}
use Rattle.kr_types_meaning.specs.Rules as rules
use Rattle.kr_types_judging.specs.declared.known.Known.{Known}
use Rattle.kr_types_judging.specs.declared.known.Known.TheVariants as known

-- the values of a list
pub record IsValueList (t : rules.Typed) : Type 0 where
  pub types : List JavaType
  pub is : t ≡ rules.Values types

-- the rest after a list's first value is a list of values
abbrev pub IsLinked : (ℕ → rules.Typed) → Known → Type 0
IsLinked look (known.More first rest) = IsValueList (look rest)
IsLinked look k = Unit {0}
