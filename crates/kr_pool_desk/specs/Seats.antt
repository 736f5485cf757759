-- Between crates: seats, their numbers, and what they counted.
use Rattle.std.specs.Prelude.{ℕ, zero, suc, ◌+◌, List, [], ◌∷◌}
use Rattle.kr_pool_desk.specs.declared.crew.Crew.{Ghosts}
use Rattle.kr_pool_desk.specs.declared.seat.Seat.{Seat}

-- the calls of these seats together
abbrev pub calls_of : {N : Type 0} {G : Ghosts N} → List (Seat N G) → ℕ
calls_of [] = 0
calls_of (s ∷ ss) = s.calls.amount + calls_of ss

-- the numbers of these seats
abbrev pub numbers_of : {N : Type 0} {G : Ghosts N} → List (Seat N G) → List ℕ
numbers_of [] = []
numbers_of (s ∷ ss) = s.number ∷ numbers_of ss

-- the numbers below one, the highest first
abbrev pub numbers_below : ℕ → List ℕ
numbers_below zero = []
numbers_below (suc n) = n ∷ numbers_below n
