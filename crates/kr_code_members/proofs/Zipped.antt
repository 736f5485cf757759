-- Lists related item by item.
use Rattle.std.proofs.Common.{◌≡◌, inl, inr, refl, sym, ap, ◌∙◌, subst, ℕ, zero, suc, ◌+◌, ◌<◌, ◌≤◌, List, [], ◌∷◌, ◌++◌, length, map, take, get_or, append-nil, All, arith}
use Rattle.std.specs.Prelude.{Option, Some, flat_map, option_to_list, slice_get}
use Rattle.std.specs.List.{AllZip, AllByRecursion}
use Rattle.std.proofs.lemmas.List.{take_all}
use Rattle.std.proofs.lemmas.List.Folds.{flat_map-map}
use Rattle.std.proofs.lemmas.Option.{get_or_from_slice_get, slice_get_within}
use Rattle.std.proofs.lemmas.List.Elements.{All-cons, All-from_recursion, All-head, All-nil, All-tail}
use Rattle.kr_base.proofs.Added.{flat_step}
use Rattle.kr_base.proofs.ListLemmas.{slice_get-push}

pub same_item : {A : Type 0} (x y : A) → x ∷ [] ≡ y ∷ [] → x ≡ y
same_item x y e = cc

pub zip_append : {A B : Type 0} (R : A → B → Type 0) (xs us : List A) (ys vs : List B) → AllZip R xs ys → AllZip R us vs → AllZip R (xs ++ us) (ys ++ vs)
zip_append R [] us [] vs h k = k
zip_append R [] us (y ∷ ys) vs h k = absurd h
zip_append R (x ∷ xs) us [] vs h k = absurd h
zip_append R (x ∷ xs) us (y ∷ ys) vs h k = (h.0, zip_append R xs us ys vs h.1 k)

pub zip_length : {A B : Type 0} (R : A → B → Type 0) (xs : List A) (ys : List B) → AllZip R xs ys → length ys ≡ length xs
zip_length R [] [] h = refl
zip_length R [] (y ∷ ys) h = absurd h
zip_length R (x ∷ xs) [] h = absurd h
zip_length R (x ∷ xs) (y ∷ ys) h = ap suc (zip_length R xs ys h.1)

pub zip_at : {A B : Type 0} (R : A → B → Type 0) (xs : List A) (ys : List B) (k : ℕ) (d : A) (e : B) → AllZip R xs ys → k < length ys → R (get_or xs k d) (get_or ys k e)
zip_at R [] [] k d e h l = absurd (omega (arith, l))
zip_at R [] (y ∷ ys) k d e h l = absurd h
zip_at R (x ∷ xs) [] k d e h l = absurd h
zip_at R (x ∷ xs) (y ∷ ys) zero d e h l = h.0
zip_at R (x ∷ xs) (y ∷ ys) (suc k) d e h l = zip_at R xs ys k d e h.1 (omega (arith, l))

-- nothing of an item so far
pub zip_start : {A B C : Type 0} (R : A → B → Type 0) (f : C → List A) (before : List A) (ys : List B) (xs : List C) → AllZip R before ys → AllZip R (before ++ flat_map f (take 0 xs)) ys
zip_start R f before ys xs h = subst (λ (zs : List _). AllZip R zs ys) (sym (append-nil before)) h

-- one item more
pub zip_step : {A B C : Type 0} (R : A → B → Type 0) (f : C → List A) (before : List A) (kept new : List B) (found : Option B) (xs : List C) (i : ℕ) (d : C) → i < length xs
    → new ≡ kept ++ option_to_list found → AllZip R (before ++ flat_map f (take i xs)) kept → AllZip R (f (get_or xs i d)) (option_to_list found) → AllZip R (before ++ flat_map f (take (i + 1) xs)) new
zip_step R f before kept new found xs i d l n h k =
    let x = get_or xs i d in
    let all = before ++ flat_map f (take i xs) in
    subst (λ (bs : List _). AllZip R (before ++ flat_map f (take (i + 1) xs)) bs) (sym n)
    (subst (λ (zs : List _). AllZip R zs (kept ++ option_to_list found)) (flat_step f before all (f x) xs i d l refl refl) (zip_append R all (f x) kept (option_to_list found) h k))

-- all items
pub zip_end : {A B C : Type 0} (R : A → B → Type 0) (f : C → List A) (before : List A) (ys : List B) (xs : List C) (n : ℕ) → length xs ≤ n → AllZip R (before ++ flat_map f (take n xs)) ys → AllZip R (before ++ flat_map f xs) ys
zip_end R f before ys xs n l h = subst (λ (cs : List _). AllZip R (before ++ flat_map f cs) ys) (take_all n xs l) h

pub unmapped : {A B : Type 0} (f : A → B) (P : B → Type 0) (xs : List A) → All P (map f xs) → All (λ x. P (f x)) xs
unmapped f P [] a = All-nil (λ x. P (f x))
unmapped f P (x ∷ xs) a = All-cons (λ y. P (f y)) x xs (All-head P (f x) (map f xs) a) (unmapped f P xs (All-tail P (f x) (map f xs) a))

-- a property of the items shown
pub each_shown : {A B : Type 0} (P : B → Type 0) (v : A → B) (xs : List A) (ys : List B) → map v xs ≡ ys → AllByRecursion P ys → All (λ x. P (v x)) xs
each_shown P v xs ys e h = unmapped v P xs (All-from_recursion P (map v xs) (subst (λ (zs : List _). AllByRecursion P zs) (sym e) h))

-- lists by their items as they are shown
pub by_shown : {A B C : Type 0} (f : B → List C) (v : A → B) (xs ys : List A) (ms : List B) → ys ≡ xs → map v xs ≡ ms → flat_map (λ n. f (v n)) ys ≡ flat_map f ms
by_shown f v xs ys ms e h = sym (flat_map-map f v ys) ∙ ap (flat_map f) (ap (map v) e ∙ h)

-- one item more, by its number
pub each_push : {A : Type 0} (P : ℕ → A → Type 0) (xs ys : List A) (x : A) (n : ℕ) → ys ≡ xs ++ x ∷ [] → length xs ≡ n → P n x → ((c : ℕ) (k : A) → slice_get xs c ≡ Some k → P c k) → (c : ℕ) (k : A) → slice_get ys c ≡ Some k → P c k
each_push P xs ys x n e l p h c k i = elim (slice_get-push xs x c k (sym (ap (λ (zs : List _). slice_get zs c) e) ∙ i)) [ inl old ↦ h c k old | inr new ↦ subst (P c) new.1 (subst (λ (m : ℕ). P m x) (sym (new.0 ∙ l)) p) ]

-- the item related to the one of a number
pub zip_number : {A B : Type 0} (R : A → B → Type 0) (xs : List A) (ys : List B) (d : A) → AllZip R xs ys → (k : ℕ) (y : B) → slice_get ys k ≡ Some y → R (get_or xs k d) y
zip_number R xs ys d h k y e = subst (R (get_or xs k d)) (get_or_from_slice_get ys k y y e) (zip_at R xs ys k d y h (slice_get_within ys k y e))
