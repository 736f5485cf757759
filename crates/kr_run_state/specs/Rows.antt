-- Between crates: the index of each place that was read, in a row for each object.
use Rattle.std.specs.Prelude.{◌≡◌, ℕ, ◌+◌, ◌*◌, List, Option, Some, None, slice_get}
use Rattle.std.specs.declared.vec.Vec.{Vec}
use Rattle.std.specs.declared.alloc.Global.{Global}
use Rattle.kr_value.specs.declared.object.Spot.{Spot}
use Rattle.kr_value.specs.declared.object.Spot.TheVariants.{Field, Length, Element}
use Rattle.kr_mean.specs.Places.{SlotPlace, At}

-- the column of a spot in its object's row
abbrev pub column_of : Spot → ℕ
column_of (Field f) = f * 2
column_of Length = 1
column_of (Element i) = i * 2 + 3

-- the number in a column of a row
abbrev pub number_of : Option (Vec ℕ Global) → ℕ → Option ℕ
number_of None c = None
number_of (Some row) c = slice_get row.items c

abbrev pub number_at : List (Vec ℕ Global) → ℕ → ℕ → Option ℕ
number_at rows o c = number_of (slice_get rows o) c

-- the number of each spot of an object that is among places is its index there
abbrev pub AreIndexed : List (Vec ℕ Global) → List SlotPlace → Type 0
AreIndexed rows places = (k o : ℕ) (s : Spot) → slice_get places k ≡ Some (At o s) → number_at rows o (column_of s) ≡ Some k

-- numbers stay
abbrev pub KeepNumbers : List (Vec ℕ Global) → List (Vec ℕ Global) → Type 0
KeepNumbers before rows = (o c k : ℕ) → number_at before o c ≡ Some k → number_at rows o c ≡ Some k

-- there is a number
abbrev pub HasNumber : List (Vec ℕ Global) → ℕ → ℕ → Type 0
HasNumber rows o c = (k : ℕ) × (number_at rows o c ≡ Some k)

-- a number is another one, and all others stay
pub record IsWritten (before rows : List (Vec ℕ Global)) (o c k : ℕ) : Type 0 where
  pub there : number_at rows o c ≡ Some k
  pub others : (p e : ℕ) → ((p ≡ o) × (e ≡ c) → ⊥) → number_at rows p e ≡ number_at before p e

-- likewise where there may be none before
abbrev pub IsWrittenAfter : List (Vec ℕ Global) → List (Vec ℕ Global) → ℕ → ℕ → ℕ → Type 0
IsWrittenAfter before rows o c k = (between : List (Vec ℕ Global)) × KeepNumbers before between × IsWritten between rows o c k
