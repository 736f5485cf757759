-- Between crates: what was read, each place once, where it is read first.
use Rattle.std.specs.Prelude.{Bool, false, List, [], ◌∷◌, ◌++◌, ◌||◌, if◌then◌else◌}
use Rattle.kr_mean.specs.Places.{SlotPlace}
use Rattle.kr_mean.specs.Runs.{is_same_place}
use Rattle.kr_mean.specs.Steps.{Outcome}

abbrev pub is_read : SlotPlace → List SlotPlace → Bool
is_read p [] = false
is_read p (q ∷ qs) = is_same_place q p || is_read p qs

-- one more place
abbrev pub with_read : List SlotPlace → SlotPlace → List SlotPlace
with_read seen p = if is_read p seen then seen else seen ++ p ∷ []

-- more places, in order
abbrev pub noted_once : List SlotPlace → List SlotPlace → List SlotPlace
noted_once seen [] = seen
noted_once seen (p ∷ ps) = noted_once (with_read seen p) ps

-- an outcome, with what was read before it and in it, each once
abbrev pub noting : {A : Type 0} → List SlotPlace → Outcome A → Outcome A
noting seen o = record { said = o.said; after = o.after; reads = noted_once seen o.reads }
