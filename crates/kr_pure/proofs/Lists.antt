-- Members of lists.
use Rattle.std.proofs.Common.{◌≡◌, refl, sym, ap, subst, ℕ, zero, suc, ◌≤◌, List, [], ◌∷◌, ◌++◌, length, take, All, arith, ◌⊎◌, inl, inr}
use Rattle.std.proofs.lemmas.List.Elements.{All-head, All-tail}
use Rattle.std.specs.Prelude.{Contains, Some, slice_get, flat_map}
use Rattle.kr_mean.specs.Purity.{IsOneOf}

pub one_left : {A : Type 0} (n : A) (xs ys : List A) → IsOneOf n xs → IsOneOf n (xs ++ ys)
one_left n [] ys h = absurd h
one_left n (x ∷ xs) ys (inl e) = inl e
one_left n (x ∷ xs) ys (inr h) = inr (one_left n xs ys h)

pub one_right : {A : Type 0} (n : A) (xs ys : List A) → IsOneOf n ys → IsOneOf n (xs ++ ys)
one_right n [] ys h = h
one_right n (x ∷ xs) ys h = inr (one_right n xs ys h)

pub one_of_two : {A : Type 0} (n : A) (xs ys : List A) → IsOneOf n (xs ++ ys) → IsOneOf n xs ⊎ IsOneOf n ys
one_of_two n [] ys h = inr h
one_of_two n (x ∷ xs) ys (inl e) = inl (inl e)
one_of_two n (x ∷ xs) ys (inr h) = elim (one_of_two n xs ys h) [ inl l ↦ inl (inr l) | inr r ↦ inr r ]

pub contains_here : {A : Type 0} (x : A) (xs : List A) → Contains (x ∷ xs) x
contains_here x xs = (0, omega arith, refl)

pub contains_behind : {A : Type 0} (x y : A) (xs : List A) → Contains xs y → Contains (x ∷ xs) y
contains_behind x y xs c = (suc c.0, (let l = c.1 in omega arith), c.2)

-- an element of the lists of several is in the list of one of them
pub one_of_part : {A B : Type 0} (f : A → List B) (xs : List A) (n : B) → IsOneOf n (flat_map f xs) → (x : A) × Contains xs x × IsOneOf n (f x)
one_of_part f [] n h = absurd h
one_of_part f (x ∷ xs) n h = go (one_of_two n (f x) (flat_map f xs) h) (one_of_part f xs n)
  where
    go : IsOneOf n (f x) ⊎ IsOneOf n (flat_map f xs) → (IsOneOf n (flat_map f xs) → (y : _) × Contains xs y × IsOneOf n (f y)) → (y : _) × Contains (x ∷ xs) y × IsOneOf n (f y)
    go (inl l) deeper = (x, contains_here x xs, l)
    go (inr r) deeper = let d = deeper r in (d.0, contains_behind x d.0 xs d.1, d.2)

pub part_of_all : {A B : Type 0} (f : A → List B) (xs : List A) (x : A) (n : B) → Contains xs x → IsOneOf n (f x) → IsOneOf n (flat_map f xs)
part_of_all f [] x n c h = let l = c.1 in absurd (omega arith)
part_of_all f (y ∷ xs) x n (zero, l, e) h = one_left n (f y) (flat_map f xs) (subst (λ z. IsOneOf n (f z)) (sym e) h)
part_of_all f (y ∷ xs) x n (suc k, l, e) h = one_right n (f y) (flat_map f xs) (part_of_all f xs x n (k, omega (arith, l), e) h)

-- a fact of all, at one by its index
pub all_at : {A : Type 0} (P : A → Type 0) (xs : List A) (k : ℕ) (x : A) → All P xs → slice_get xs k ≡ Some x → P x
all_at P [] k x a e = absurd (cc)
all_at P (y ∷ xs) zero x a e = let same : y ≡ x = cc in subst P same (All-head P y xs a)
all_at P (y ∷ xs) (suc k) x a e = all_at P xs k x (All-tail P y xs a) e

pub take_past : {A : Type 0} (xs : List A) (n : ℕ) → length xs ≤ n → take n xs ≡ xs
take_past [] zero l = refl
take_past [] (suc n) l = refl
take_past (x ∷ xs) zero l = absurd (omega (arith, l))
take_past (x ∷ xs) (suc n) l = ap (λ ys. x ∷ ys) (take_past xs n (omega (arith, l)))
