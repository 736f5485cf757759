-- Between crates: the limits of the numbers in a document that was read.
use Rattle.std.specs.Prelude.{ℤ, IsTrue, All}
use Rattle.kr_fin.specs.declared.document.FinDoc.{FinDoc}
use Rattle.kr_fin.specs.declared.document.Item.{Item}
use Rattle.kr_fin.specs.declared.document.Item.TheVariants.{Number, Range, Truth, Name}
use Rattle.kr_fin.specs.Shapes.{counts, have, longs}

-- a number of 64 bits
abbrev pub IsLong : ℤ → Type 0
IsLong z = IsTrue (have longs z)

abbrev pub IsSmall : Item → Type 0
IsSmall (Number z) = IsLong z
IsSmall (Range from to) = IsLong from × IsLong to
IsSmall (Truth b) = Unit {0}
IsSmall (Name name) = Unit {0}

-- how long an array may be
abbrev pub IsLength : ℤ → Type 0
IsLength z = IsTrue (have counts z)

-- lengths are numbers alone
abbrev pub AreLengths : Item → Type 0
AreLengths (Number z) = IsLength z
AreLengths (Range from to) = IsLength from × IsLength to
AreLengths (Truth b) = ⊥
AreLengths (Name name) = ⊥

pub record IsWithinLimits (document : FinDoc) : Type 0 where
  pub fields : All (λ d. All IsSmall d.domain) document.fields
  pub params : All (λ d. All IsSmall d.domain) document.params
  pub lengths : All (λ b. All AreLengths b.lengths) document.arrays
