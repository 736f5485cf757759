-- A place among places that were read.
use Rattle.std.proofs.Common.{◌≡◌, ℕ, zero, suc, ◌<◌, Bool, true, List, [], ◌∷◌, length, get_or, ap, arith}
use Rattle.std.specs.Prelude.{map, ◌||◌}
use Rattle.std.proofs.lemmas.Bool.{or_right}
use Rattle.kr_mean.specs.Places.{SlotPlace}
use Rattle.kr_mean.specs.Runs.{is_same_place}
use Rattle.kr_run_state.specs.Noting.{is_read}

pub read_at : {X : Type 0} (f : X → SlotPlace) (p : SlotPlace) (xs : List X) (k : ℕ) (d : X) → k < length xs → is_same_place (f (get_or xs k d)) p ≡ true → is_read p (map f xs) ≡ true
read_at f p [] k d lt e = absurd (omega (arith, lt))
read_at f p (x ∷ xs) zero d lt e = ap (λ (b : Bool). b || is_read p (map f xs)) e
read_at f p (x ∷ xs) (suc k) d lt e = or_right (is_same_place (f x) p) (is_read p (map f xs)) (read_at f p xs k d (omega (arith, lt)) e)
