-- Between crates: one step of the walk.
use Rattle.std.specs.Prelude.{◌≡◌, ℕ, Bool, true, false, List, ◌++◌, Option, Some, None}
use Rattle.std.proofs.Common.{get_or}
use Rattle.kr_mean.specs.Problem.{Problem, DomainObject, heap_number}
use Rattle.kr_mean.specs.Heaps.{choice_at, slots_in}
use Rattle.kr_space_layout.specs.Marks.{IsMarked}

-- an object that wasn't met is met, and its slots come after all others
abbrev pub IsMeeting : Problem → List ℕ → DomainObject → Bool → List Bool → List ℕ → List Bool → List ℕ → Type 0
IsMeeting problem v o true met order new_met new_order = (new_met ≡ met) × (new_order ≡ order)
IsMeeting problem v o false met order new_met new_order = IsMarked met (heap_number problem o) new_met × (new_order ≡ order ++ slots_in problem v o)

abbrev pub IsVisitOf : Problem → List ℕ → Option DomainObject → List Bool → List ℕ → List Bool → List ℕ → Type 0
IsVisitOf problem v None met order new_met new_order = (new_met ≡ met) × (new_order ≡ order)
IsVisitOf problem v (Some o) met order new_met new_order = IsMeeting problem v o (get_or met (heap_number problem o) false) met order new_met new_order

-- the state after a visit of a slot
abbrev pub IsVisit : Problem → List ℕ → ℕ → List Bool → List ℕ → List Bool → List ℕ → Type 0
IsVisit problem v s met order new_met new_order = IsVisitOf problem v (choice_at problem v s).object met order new_met new_order
