-- Between crates: a heap of which one collection's members are lent.
use Rattle.std.specs.Prelude.{ℕ, List}
use Rattle.std.specs.Borrow.{Lends, MutBor, Fml}
use Rattle.kr_value.specs.declared.value.Value.{Value}
use Rattle.kr_value.specs.Heaps.{Heap}
use Rattle.kr_heap.specs.contracts.heap.Heap as heaps
use Rattle.kr_heap.specs.contracts.members.Members as members
use Rattle.kr_heap.specs.Objects.{with_values}

-- the object gets the final value of the reference
abbrev pub LendsMembers : MutBor Heap → ℕ → MutBor (List Value) → Fml
LendsMembers heap o lent = Lends heaps.the_row members.the_row heap lent (with_values heap.now o)
