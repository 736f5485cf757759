-- Lists whose first elements are copied.
use Rattle.std.proofs.Common.{◌≡◌, ℕ, zero, suc, ◌+◌, ◌-◌, ◌<◌, List, [], ◌∷◌, ◌++◌, length, get_or, refl, ap, arith, subst, ◌∙◌}
use Rattle.std.specs.Prelude.{map, take, drop, slice_set}
use Rattle.std.proofs.lemmas.List.{take-append-drop, take_all, length-drop}

-- one more element is copied
taken_set : {X Y : Type 0} (f : X → Y) (xs : List X) (x : X) (ys : List X) (k : ℕ) (d : X) → k < length xs → k < length ys → take k (map f xs) ≡ take k (map f ys) → f x ≡ f (get_or ys k d) → take (suc k) (map f (slice_set xs k x)) ≡ take (suc k) (map f ys)
taken_set f [] x ys k d a b t e = absurd (omega (arith, a))
taken_set f (z ∷ zs) x [] k d a b t e = absurd (omega (arith, b))
taken_set f (z ∷ zs) x (y ∷ ys) zero d a b t e = ap (λ w. w ∷ []) e
taken_set f (z ∷ zs) x (y ∷ ys) (suc k) d a b t e = go (cc (t)) (taken_set f zs x ys k d (omega (arith, a)) (omega (arith, b)) (cc (t)) e)
  where
    go : f z ≡ f y → take (suc k) (map f (slice_set zs k x)) ≡ take (suc k) (map f ys) → f z ∷ take (suc k) (map f (slice_set zs k x)) ≡ f y ∷ take (suc k) (map f ys)
    go p q = cc (p, q)

pub one_more : {X Y : Type 0} (f : X → Y) (xs : List X) (x : X) (ys : List X) (k : ℕ) (d : X) → k < length xs → k < length ys → take k (map f xs) ≡ take k (map f ys) → f x ≡ f (get_or ys k d) → take (k + 1) (map f (slice_set xs k x)) ≡ take (k + 1) (map f ys)
one_more f xs x ys k d a b t e =
    let n : suc k ≡ k + 1 = omega arith in
    subst (λ m. take m (map f (slice_set xs k x)) ≡ take m (map f ys)) n (taken_set f xs x ys k d a b t e)

map_rest : {X Y : Type 0} (f : X → Y) (n : ℕ) (xs : List X) → map f (drop n xs) ≡ drop n (map f xs)
map_rest f zero xs = refl
map_rest f (suc n) [] = refl
map_rest f (suc n) (x ∷ xs) = map_rest f n xs

-- a slice up to the end
pub to_the_end : {X : Type 0} (n m : ℕ) (xs : List X) → m ≡ length xs - n → take m (drop n xs) ≡ drop n xs
to_the_end n m xs e = take_all m (drop n xs) (omega (arith, e, length-drop n xs))

-- the first items, and the rest after them
pub first_and_rest : {X Y : Type 0} (f : X → Y) (xs front all : List X) (n : ℕ) → map f front ≡ take n (map f xs) → map f all ≡ map f front ++ map f (drop n xs) → map f all ≡ map f xs
first_and_rest f xs front all n e g = g ∙ (ap (λ ys. ys ++ map f (drop n xs)) e ∙ (ap (λ ys. take n (map f xs) ++ ys) (map_rest f n xs) ∙ take-append-drop n (map f xs)))
