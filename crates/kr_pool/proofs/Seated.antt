-- A seat for each worker: those of the others, and the caller's.
use Rattle.std.proofs.Common.{◌≡◌, ℕ, zero, suc, List, [], ◌∷◌, ◌++◌, sym, ap, ◌∙◌}
use Rattle.kr_pool_desk.specs.declared.crew.Crew.{Ghosts}
use Rattle.kr_pool_desk.specs.declared.seat.Seat.{Seat}
use Rattle.kr_pool_desk.specs.Seats.{numbers_below, numbers_of}
use Rattle.kr_pool_desk.proofs.Seating.{numbers_append}

-- the last of the numbers below one is 0
last_number : (xs : List ℕ) (n workers : ℕ) → xs ++ n ∷ [] ≡ numbers_below workers → n ≡ 0
last_number [] n zero e = absurd (cc (e))
last_number (x ∷ xs) n zero e = absurd (cc (e))
last_number [] n (suc zero) e = cc (e)
last_number [] n (suc (suc m)) e = absurd (cc (e))
last_number (x ∷ xs) n (suc m) e = last_number xs n m (cc (e))

pub seated : {N : Type 0} {G : Ghosts N} (all rest others : List (Seat N G)) (s : Seat N G) (workers : ℕ) → all ≡ rest ++ s ∷ [] → others ≡ rest → numbers_of all ≡ numbers_below workers → numbers_of others ++ 0 ∷ [] ≡ numbers_below workers
seated {N} {G} all rest others s workers e o h =
    let n : numbers_of rest ++ s.number ∷ [] ≡ numbers_below workers = sym (numbers_append rest s) ∙ (ap (λ (l : List (Seat N G)). numbers_of l) (sym e) ∙ h) in
    ap (λ (l : List (Seat N G)). numbers_of l ++ 0 ∷ []) o ∙ (ap (λ (k : ℕ). numbers_of rest ++ k ∷ []) (sym (last_number (numbers_of rest) s.number workers n)) ∙ n)
