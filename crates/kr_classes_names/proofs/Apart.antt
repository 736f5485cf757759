-- Keys of a set, seen as a list of different items.
use Rattle.std.proofs.Common.{◌≡◌, refl, sym, ap, ◌∙◌, ℕ, zero, suc, Bool, true, false, List, [], ◌∷◌, map, Some, bytes_eq}
use Rattle.std.specs.Prelude.{slice_get}
use Rattle.std.specs.List.{IsDistinct, AllByRecursion}
use Rattle.kr_classes_names.specs.ListedTypes.{AreApart, IsAbsent}
use Rattle.kr_classes_names.proofs.Same.{itself}
use Rattle.kr_classes_names.proofs.Indexes.{same_name}

not_among : {K X : Type 0} (eq : K → K → Bool) (f : K → X) → ((x y : K) → f x ≡ f y → eq x y ≡ true) → (k : K) (ks : List K) → AllByRecursion (λ y. eq k y ≡ false) ks → IsAbsent (f k) (map f ks)
not_among eq f same k [] a i e = cc
not_among eq f same k (y ∷ ks) a zero e = let s : f k ≡ f y = cc in let t = same k y s in let u = a.0 in absurd (cc)
not_among eq f same k (y ∷ ks) a (suc i) e = not_among eq f same k ks a.1 i e

pub apart : {K X : Type 0} (eq : K → K → Bool) (f : K → X) → ((x y : K) → f x ≡ f y → eq x y ≡ true) → (ks : List K) → IsDistinct eq ks → AreApart (map f ks)
unfolding IsDistinct
apart eq f same [] d i j x p q = cc
apart eq f same (k ∷ ks) d zero zero x p q = refl
apart eq f same (k ∷ ks) d zero (suc j) x p q = let s : f k ≡ x = cc in absurd (not_among eq f same k ks d.0 j (q ∙ ap Some (sym s)))
apart eq f same (k ∷ ks) d (suc i) zero x p q = let s : f k ≡ x = cc in absurd (not_among eq f same k ks d.0 i (p ∙ ap Some (sym s)))
apart eq f same (k ∷ ks) d (suc i) (suc j) x p q = ap suc (apart eq f same ks d.1 i j x p q)

pub map_self : {A : Type 0} (xs : List A) → map (λ x. x) xs ≡ xs
map_self [] = refl
map_self (x ∷ xs) = ap (λ ys. x ∷ ys) (map_self xs)

pub same_bytes : {K : Type 0} (f : K → List ℕ) (x y : K) → f x ≡ f y → bytes_eq (f x) (f y) ≡ true
same_bytes f x y e = ap (λ n. bytes_eq (f x) n) (sym e) ∙ itself (f x)

-- the item that a key's item is
pub map_got : {K X : Type 0} (f : K → X) (ks : List K) (i : ℕ) (k : K) → slice_get ks i ≡ Some k → slice_get (map f ks) i ≡ Some (f k)
map_got f [] i k e = absurd (cc)
map_got f (y ∷ ks) zero k e = let s : y ≡ k = cc in ap (λ z. Some (f z)) s
map_got f (y ∷ ks) (suc i) k e = map_got f ks i k e

-- a key that compares with these bytes has them
pub stored_bytes : {K : Type 0} (f : K → List ℕ) (ks : List K) (i : ℕ) (k : K) (name : List ℕ) (v : K) → slice_get ks i ≡ Some k → bytes_eq (f v) (f k) ≡ true → f v ≡ name → slice_get (map f ks) i ≡ Some name
stored_bytes f ks i k name v e b s = map_got f ks i k e ∙ ap Some (sym (same_name (f v) (f k) b) ∙ s)
