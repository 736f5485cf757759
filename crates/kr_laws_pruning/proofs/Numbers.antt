-- Numbers in a list, and lists of different numbers.
use Rattle.std.proofs.Common.{◌≡◌, ℕ, zero, suc, ◌+◌, ◌<◌, ◌≤◌, ◌⊎◌, inl, inr, List, [], ◌∷◌, refl, sym, ◌∙◌, ap, subst, arith, get_or, length, true, false}
use Rattle.std.specs.Prelude.{map}
use Rattle.std.specs.List.{range_with_len}
use Rattle.std.proofs.lemmas.Bool.Decides.{nat_tests}
use Rattle.std.proofs.lemmas.Bool.{cases_Bool}
use Rattle.kr_mean.specs.Readings.{Lacks}
use Rattle.kr_mean.specs.Runs.{contains_number}
use Rattle.kr_mean.specs.Entries.{are_apart}
use Rattle.kr_laws_pruning.proofs.Membership.{Has, has_map_from, range_has}

pub has_number : (xs : List ℕ) (x : ℕ) → Has x xs → contains_number xs x ≡ true
has_number [] x h = absurd h
has_number (y ∷ ys) x (inl q) = grind (arith, nat_tests)
has_number (y ∷ ys) x (inr q) = let rest : contains_number ys x ≡ true = has_number ys x q in rw rest (grind (arith, nat_tests))

pub lacks_number : (xs : List ℕ) (x : ℕ) → (Has x xs → ⊥) → contains_number xs x ≡ false
lacks_number [] x n = refl
lacks_number (y ∷ ys) x n =
    let rest : contains_number ys x ≡ false = lacks_number ys x (λ h. n (inr h)) in
    let other : y ≡ x → ⊥ = λ q. n (inl q) in
    rw rest (grind (arith, nat_tests))

pub has_not : (xs : List ℕ) (s : ℕ) → Lacks xs s → Has s xs → ⊥
has_not [] s l h = h
has_not (x ∷ xs) s l (inl h) = l.0 h
has_not (x ∷ xs) s l (inr h) = has_not xs s l.1 h

pub no_lacks : (xs : List ℕ) (s : ℕ) → (Has s xs → ⊥) → Lacks xs s
no_lacks [] s n = tt
no_lacks (x ∷ xs) s n = (λ e. n (inl e), no_lacks xs s (λ h. n (inr h)))

-- inside a list the default makes no difference
pub any_default : (xs : List ℕ) (i d e : ℕ) → i < length xs → get_or xs i d ≡ get_or xs i e
any_default [] i d e h = absurd (omega arith)
any_default (x ∷ xs) zero d e h = refl
any_default (x ∷ xs) (suc i) d e h = any_default xs i d e (omega arith)

get_has : (xs : List ℕ) (i d : ℕ) → i < length xs → Has (get_or xs i d) xs
get_has [] i d h = absurd (omega arith)
get_has (x ∷ xs) zero d h = inl refl
get_has (x ∷ xs) (suc i) d h = inr (get_has xs i d (omega arith))

-- the values of a function that takes the numbers of a range apart
pub apart_ranges : (f : ℕ → ℕ) (a n : ℕ) → ((j k : ℕ) → a ≤ j → j < a + n → a ≤ k → k < a + n → f j ≡ f k → j ≡ k) → are_apart (map f (range_with_len a n)) ≡ true
apart_ranges f a zero apart = refl
apart_ranges f a (suc n) apart =
    let rest : are_apart (map f (range_with_len (a + 1) n)) ≡ true = apart_ranges f (a + 1) n (λ j k p q r s e. apart j k (omega arith) (omega arith) (omega arith) (omega arith) e) in
    rw (lacks_number (map f (range_with_len (a + 1) n)) (f a) new, rest) refl
  where
    new : Has (f a) (map f (range_with_len (a + 1) n)) → ⊥
    new h =
        let m = has_map_from f (f a) (range_with_len (a + 1) n) h in
        let r = range_has (a + 1) n m.0 m.1 in
        let same : m.0 ≡ a = apart m.0 a (let l = r.0 in omega arith) (let l = r.1 in omega arith) (omega arith) (omega arith) m.2 in
        (let l = r.0 in omega arith)

-- different places of a list of different numbers have different numbers
pub apart_at : (xs : List ℕ) → are_apart xs ≡ true → (j k : ℕ) → j < length xs → k < length xs → get_or xs j j ≡ get_or xs k k → j ≡ k
apart_at [] t j k hj hk e = absurd (omega arith)
apart_at (x ∷ xs) t j k hj hk e = go (cases_Bool (contains_number xs x)) (cases_Bool (are_apart xs)) (apart_at xs) j k hj hk e
  where
    clash : contains_number xs x ≡ false → (i : ℕ) → i < length xs → x ≡ get_or xs i (suc i) → ⊥
    clash f i h q = let y : contains_number xs x ≡ true = has_number xs x (subst (λ (z : ℕ). Has z xs) (sym q) (get_has xs i (suc i) h)) in cc

    go : (contains_number xs x ≡ true) ⊎ (contains_number xs x ≡ false) → (are_apart xs ≡ true) ⊎ (are_apart xs ≡ false)
        → (are_apart xs ≡ true → (j k : ℕ) → j < length xs → k < length xs → get_or xs j j ≡ get_or xs k k → j ≡ k)
        → (j k : ℕ) → j < length (x ∷ xs) → k < length (x ∷ xs) → get_or (x ∷ xs) j j ≡ get_or (x ∷ xs) k k → j ≡ k
    go (inl a) b r j k p q e = absurd (let z : are_apart (x ∷ xs) ≡ false = rw a refl in cc)
    go (inr a) (inr b) r j k p q e = absurd (let z : are_apart (x ∷ xs) ≡ false = rw (a, b) refl in cc)
    go (inr a) (inl b) r zero zero p q e = refl
    go (inr a) (inl b) r zero (suc k) p q e = absurd (clash a k (omega arith) e)
    go (inr a) (inl b) r (suc j) zero p q e = absurd (clash a j (omega arith) (sym e))
    go (inr a) (inl b) r (suc j) (suc k) p q e = ap suc (r b j k (omega arith) (omega arith) (any_default xs j j (suc j) (omega arith) ∙ (e ∙ any_default xs k (suc k) k (omega arith))))
