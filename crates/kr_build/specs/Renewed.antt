-- Between crates: a heap that is a vector's but for one slot, positions of spots, and vectors that are the same but for some slots.
use Rattle.std.specs.Prelude.{◌≡◌, ◌⊎◌, ◌<◌, ◌≤◌, ℕ, List, Option, Some, None, slice_set}
use Rattle.std.proofs.Common.{get_or}
use Rattle.kr_value.specs.Heaps.{Heap}
use Rattle.kr_value.specs.declared.object.Spot.{Spot}
use Rattle.kr_value.specs.declared.object.Spot.TheVariants.{Field, Length, Element}
use Rattle.kr_mean.specs.Heaps.{heap_of}
use Rattle.kr_mean.specs.Problem.{Problem}

-- it's the heap of one that has another index there
pub record IsBut (problem : Problem) (slot : ℕ) (vector : List ℕ) (heap : Heap) : Type 0 where
  pub old : List ℕ
  pub index : ℕ
  pub changed : vector ≡ slice_set old slot index
  pub heap_is : heap ≡ heap_of problem old

-- the position of a field or an element
abbrev pub position_of : Spot → Option ℕ
position_of (Field f) = Some f
position_of (Element i) = Some i
position_of Length = None

-- two vectors have the same indices, but at slots from one to another
abbrev pub IsSameBut : List ℕ → List ℕ → ℕ → ℕ → Type 0
IsSameBut u v low high = (s : ℕ) → (s < low) ⊎ (high ≤ s) → get_or u s 0 ≡ get_or v s 0
