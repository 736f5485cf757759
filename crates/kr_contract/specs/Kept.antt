-- Between crates: a heap that is kept from candidate to candidate, with the vector that it is of.
use Rattle.std.specs.Prelude.{◌≡◌, true}
use Rattle.kr_mean.specs.Heaps.{heap_of}
use Rattle.kr_mean.specs.Problem.{Problem}
use Rattle.kr_mean.specs.Space.{IsVector, space_of}
use Rattle.kr_contract.specs.declared.heap.Kept.{Kept}

pub record IsBuilt (problem : Problem) (kept : Kept) : Type 0 where
  pub vector : IsVector (space_of problem) kept.vector
  pub heap : kept.heap ≡ heap_of problem kept.vector

-- where the heap is built, it is the vector's
abbrev pub IsKept : Problem → Kept → Type 0
IsKept problem kept = kept.is_built ≡ true → IsBuilt problem kept
