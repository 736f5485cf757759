-- The first items of a list with room after them.
use Rattle.std.proofs.Common.{◌≡◌, ℕ, zero, suc, ◌+◌, ◌-◌, ◌<◌, ◌≤◌, List, [], ◌∷◌, ◌++◌, length, get_or, refl, ap, arith, subst}
use Rattle.std.specs.Prelude.{take, slice_set}

take_put : {X : Type 0} (xs : List X) (k : ℕ) (x : X) → k < length xs → take (suc k) (slice_set xs k x) ≡ take k xs ++ x ∷ []
take_put [] k x h = absurd (omega (arith, h))
take_put (y ∷ ys) zero x h = refl
take_put (y ∷ ys) (suc k) x h = ap (λ zs. y ∷ zs) (take_put ys k x (omega (arith, h)))

-- one more, in the room
pub one_more : {X : Type 0} (xs : List X) (k : ℕ) (x : X) → k < length xs → take (k + 1) (slice_set xs k x) ≡ take k xs ++ x ∷ []
one_more xs k x h = let n : suc k ≡ k + 1 = omega arith in subst (λ m. take m (slice_set xs k x) ≡ take k xs ++ x ∷ []) n (take_put xs k x h)

take_last : {X : Type 0} (xs : List X) (k : ℕ) (d : X) → k < length xs → take (suc k) xs ≡ take k xs ++ get_or xs k d ∷ []
take_last [] k d h = absurd (omega (arith, h))
take_last (y ∷ ys) zero d h = refl
take_last (y ∷ ys) (suc k) d h = ap (λ zs. y ∷ zs) (take_last ys k d (omega (arith, h)))

-- the last of the first
pub last_is : {X : Type 0} (xs : List X) (n : ℕ) (d : X) → 0 < n → n ≤ length xs → take n xs ≡ take (n - 1) xs ++ get_or xs (n - 1) d ∷ []
last_is xs n d a b =
    let m : suc (n - 1) ≡ n = omega (arith, a) in
    subst (λ k. take k xs ≡ take (n - 1) xs ++ get_or xs (n - 1) d ∷ []) m (take_last xs (n - 1) d (omega (arith, a, b)))
