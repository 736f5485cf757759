-- Between crates: places in the order in which a run has read them, and the slots that came with them.
use Rattle.std.specs.Prelude.{◌≡◌, ℕ, true, List, [], ◌∷◌, reverse, take}
use Rattle.kr_mean.specs.Places.{SlotPlace}
use Rattle.kr_mean.specs.Runs.{contains_number}
use Rattle.kr_run_state.specs.Noting.{is_read}
use Rattle.kr_mean.specs.Places.{place_of}
use Rattle.kr_judge.specs.Orders.{with_slots}
use Rattle.kr_judge.specs.declared.accesses.Access.{Access}
use Rattle.kr_judge.specs.declared.accesses.Accesses.{Accesses}

-- of places, the last one first: the slots of each were added to those before it
abbrev pub AreOf : (SlotPlace → List ℕ) → List Access → List ℕ → Type 0
AreOf slots_of [] order = order ≡ []
AreOf slots_of (a ∷ others) order = AreOf slots_of others (take a.before order) × (order ≡ with_slots (take a.before order) (slots_of (place_of a.place)))

-- the slots so far are those of the places, followed by others
abbrev pub Follow : (SlotPlace → List ℕ) → Accesses → Type 0
Follow slots_of a = AreOf slots_of (reverse a.places.items) (take a.count a.order)

-- the slots of places are among these
abbrev pub HaveCome : (SlotPlace → List ℕ) → List SlotPlace → List ℕ → Type 0
HaveCome slots_of places order = (p : SlotPlace) (s : ℕ) → is_read p places ≡ true → contains_number (slots_of p) s ≡ true → contains_number order s ≡ true

abbrev pub place_in : Access → SlotPlace
place_in a = place_of a.place
