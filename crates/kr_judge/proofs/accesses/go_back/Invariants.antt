use Rattle.std.proofs.Common.{◌≡◌, ℕ, List, take, length}
use Rattle.std.specs.Prelude.{reverse}
use Rattle.kr_mean.specs.Places.{SlotPlace}
use Rattle.kr_judge.specs.Follows.{AreOf}
use Rattle.kr_judge.proofs.accesses.go_back.Given as goal

abbrev pub invariant-places : goal.invariant-places
invariant-places l = (take l.count l.places.items ≡ take l.count l.fn.places.items) × ((slots_of : SlotPlace → List ℕ) → AreOf slots_of (reverse l.fn.places.items) l.fn.order → AreOf slots_of (reverse l.places.items) l.order)

abbrev pub decreases-places : goal.decreases-places
decreases-places l = length l.places.items
