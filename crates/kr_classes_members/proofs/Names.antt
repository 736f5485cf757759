-- The first occurrence of a name in a list.
use Rattle.std.proofs.Common.{◌≡◌, refl, ap, ◌∙◌, ℕ, ◌+◌, Bool, true, false, List, [], ◌∷◌, map, bytes_eq, cond, add-one, subst, All}
use Rattle.std.specs.Prelude.{Option, Some, None, find, option_and_then, option_map, slice_get, IfSome}
use Rattle.std.specs.List.{position_from}
use Rattle.std.proofs.lemmas.Option.{get_or_from_slice_get, slice_get_within}
use Rattle.kr_classes_names.specs.Listed.{IsIndexOf, place_of}
use Rattle.kr_classes_names.proofs.ClassNumbers.{turned}

at_head : (b : Bool) (k : ℕ) (o r : Option ℕ) → o ≡ option_map (λ i. i + 1) r → cond b (Some (k + 1)) o ≡ option_map (λ i. i + 1) (cond b (Some k) r)
at_head true k o r e = refl
at_head false k o r e = e

shifted : {A : Type 0} (p : A → Bool) (k : ℕ) (xs : List A) → position_from p (k + 1) xs ≡ option_map (λ i. i + 1) (position_from p k xs)
shifted p k [] = refl
shifted p k (x ∷ xs) = at_head (p x) k (position_from p (k + 1 + 1) xs) (position_from p (k + 1) xs) (shifted p (k + 1) xs)

behind : {A : Type 0} (x : A) (xs : List A) (o : Option ℕ) → option_and_then (slice_get (x ∷ xs)) (option_map (λ i. i + 1) o) ≡ option_and_then (slice_get xs) o
behind x xs None = refl
behind x xs (Some i) = ap (slice_get (x ∷ xs)) (add-one i)

by_case : {A : Type 0} (b : Bool) (x : A) (xs : List A) (o : Option ℕ) (r : Option A) → option_and_then (slice_get (x ∷ xs)) o ≡ r → option_and_then (slice_get (x ∷ xs)) (cond b (Some 0) o) ≡ cond b (Some x) r
by_case true x xs o r e = refl
by_case false x xs o r e = e

-- the first item with a name
pub first_of_name : {A : Type 0} (name : A → List ℕ) (n : List ℕ) (xs : List A) → option_and_then (slice_get xs) (position_from (bytes_eq n) 0 (map name xs)) ≡ find (λ x. bytes_eq n (name x)) xs
first_of_name name n [] = refl
first_of_name name n (x ∷ xs) =
    by_case (bytes_eq n (name x)) x xs (position_from (bytes_eq n) (0 + 1) (map name xs)) (find (λ y. bytes_eq n (name y)) xs)
    (ap (option_and_then (slice_get (x ∷ xs))) (shifted (bytes_eq n) 0 (map name xs)) ∙ behind x xs (position_from (bytes_eq n) 0 (map name xs)) ∙ first_of_name name n xs)

seen : {A B : Type 0} (v : A → B) (b : Bool) (x : A) (r : Option A) (s : Option B) → option_map v r ≡ s → option_map v (cond b (Some x) r) ≡ cond b (Some (v x)) s
seen v true x r s e = refl
seen v false x r s e = e

swapped : {A B : Type 0} (v : A → B) (b d : Bool) (x : A) (r : Option A) (s : Option B) → b ≡ d → option_map v r ≡ s → option_map v (cond b (Some x) r) ≡ cond d (Some (v x)) s
swapped v b d x r s e f = ap (λ q. option_map v (cond q (Some x) r)) e ∙ seen v d x r s f

-- the first item with a name, as shown
pub shown_of_name : {A B : Type 0} (v : A → B) (name : A → List ℕ) (title : B → List ℕ) (n : List ℕ) → ((x : A) → name x ≡ title (v x)) → (xs : List A) → option_map v (find (λ x. bytes_eq n (name x)) xs) ≡ find (λ y. bytes_eq (title y) n) (map v xs)
shown_of_name v name title n same [] = refl
shown_of_name v name title n same (x ∷ xs) =
    swapped v (bytes_eq n (name x)) (bytes_eq (title (v x)) n) x (find (λ y. bytes_eq n (name y)) xs) (find (λ y. bytes_eq (title y) n) (map v xs)) (ap (bytes_eq n) (same x) ∙ turned n (title (v x)))
    (shown_of_name v name title n same xs)

got : {A : Type 0} (P : A → Type 0) (xs : List A) (i : ℕ) → All P xs → (o : Option A) → slice_get xs i ≡ o → IfSome o P
got P xs i a None e = tt
got {A = A} P xs i a (Some x) e = subst (λ (y : A). P y) (get_or_from_slice_get xs i x x e) (a i x (slice_get_within xs i x e))

-- the item found by an index, as shown
pub indexed : {A B : Type 0} (v : A → B) (name : A → List ℕ) (title : B → List ℕ) (n : List ℕ) → ((x : A) → name x ≡ title (v x)) → (xs : List A) (kept : List (List ℕ × ℕ)) (ys : List B) → IsIndexOf (map name xs) kept → map v xs ≡ ys
    → option_map v (option_and_then (slice_get xs) (place_of n kept)) ≡ find (λ y. bytes_eq (title y) n) ys
indexed v name title n same xs kept ys k e =
    ap (λ o. option_map v (option_and_then (slice_get xs) o)) (k n)
    ∙ ap (option_map v) (first_of_name name n xs)
    ∙ shown_of_name v name title n same xs
    ∙ ap (find (λ y. bytes_eq (title y) n)) e

-- the item found is in the list
pub found_one : {A : Type 0} (P : A → Type 0) (xs : List A) (o : Option ℕ) → All P xs → IfSome (option_and_then (slice_get xs) o) P
found_one P xs None a = tt
found_one P xs (Some i) a = got P xs i a (slice_get xs i) refl
