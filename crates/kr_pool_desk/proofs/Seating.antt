-- Calls and numbers of more seats.
use Rattle.std.proofs.Common.{◌≡◌, ℕ, suc, ◌+◌, List, [], ◌∷◌, ◌++◌, arith, refl, sym, ap, ◌∙◌, subst, append_assoc}
use Rattle.kr_pool_desk.specs.declared.crew.Crew.{Ghosts}
use Rattle.kr_pool_desk.specs.declared.seat.Seat.{Seat}
use Rattle.kr_pool_desk.specs.Seats.{calls_of, numbers_below, numbers_of}

pub calls_of_append : {N : Type 0} {G : Ghosts N} (xs ys : List (Seat N G)) → calls_of (xs ++ ys) ≡ calls_of xs + calls_of ys
calls_of_append [] ys = omega arith
calls_of_append (x ∷ xs) ys = omega (arith, calls_of_append xs ys)

pub numbers_append : {N : Type 0} {G : Ghosts N} (xs : List (Seat N G)) (y : Seat N G) → numbers_of (xs ++ y ∷ []) ≡ numbers_of xs ++ y.number ∷ []
numbers_append [] y = refl
numbers_append (x ∷ xs) y = ap (λ (ns : List ℕ). x.number ∷ ns) (numbers_append xs y)

-- one more, where so many are left
pub numbers_more : {N : Type 0} {G : Ghosts N} (xs : List (Seat N G)) (y : Seat N G) (left workers : ℕ) → y.number ≡ left → numbers_of xs ++ numbers_below (left + 1) ≡ numbers_below workers → numbers_of (xs ++ y ∷ []) ++ numbers_below left ≡ numbers_below workers
numbers_more {N} {G} xs y left workers is h =
    let e : left + 1 ≡ suc left = omega arith in
    ap (λ (ns : List ℕ). ns ++ numbers_below left) (numbers_append xs y)
    ∙ (append_assoc (numbers_of xs) (y.number ∷ []) (numbers_below left)
    ∙ (ap (λ (n : ℕ). numbers_of xs ++ n ∷ numbers_below left) is ∙ (ap (λ (n : ℕ). numbers_of xs ++ numbers_below n) (sym e) ∙ h)))

-- the last one
pub numbers_last : {N : Type 0} {G : Ghosts N} (xs : List (Seat N G)) (y : Seat N G) (workers : ℕ) → y.number ≡ 0 → numbers_of xs ++ numbers_below 1 ≡ numbers_below workers → numbers_of (xs ++ y ∷ []) ≡ numbers_below workers
numbers_last {N} {G} xs y workers is h = numbers_append xs y ∙ (ap (λ (n : ℕ). numbers_of xs ++ n ∷ []) is ∙ h)
