-- Permutations of the class domains: those that a plain function tries are all renamings.
use Rattle.std.proofs.Common.{◌≡◌, ℕ, zero, suc, ◌+◌, ◌<◌, ◌≤◌, ◌⊎◌, inl, inr, List, [], ◌∷◌, refl, ap, ◌∙◌, subst, arith, get_or, length}
use Rattle.std.specs.Prelude.{map, replicate}
use Rattle.std.specs.List.{range_with_len}
use Rattle.std.proofs.lemmas.List.FromFn.{length-map-range_with_len, get_or-map-range_with_len}
use Rattle.std.proofs.lemmas.Bool.{cases_lt}
use Rattle.kr_mean.specs.Problem.{upto}
use Rattle.kr_mean.specs.Space.{Space, IsRenaming}
use Rattle.kr_mean.specs.Entries.{selections, are_apart, permutations, renamings, name_in}
use Rattle.kr_laws_pruning.proofs.Membership.{Has, Fits, fits_has, has_fits, has_filter, has_filter_from, has_map_from, has_range, range_has}
use Rattle.kr_laws_pruning.proofs.Numbers.{any_default, apart_ranges, apart_at}

fits_pointwise : (g : ℕ → List ℕ) (h : ℕ → List (List ℕ)) (a n : ℕ) → ((c : ℕ) → Has (g c) (h c)) → Fits (map g (range_with_len a n)) (map h (range_with_len a n))
fits_pointwise g h a zero p = tt
fits_pointwise g h a (suc n) p = (p a, fits_pointwise g h (a + 1) n p)

abbrev pub row_of : (ℕ → ℕ → ℕ) → (ℕ → ℕ) → ℕ → List ℕ
row_of f count c = map (f c) (upto (count c))

fits_replicate : (xs ys : List ℕ) → ((x : ℕ) → Has x xs → Has x ys) → Fits xs (replicate (length xs) ys)
fits_replicate [] ys h = tt
fits_replicate (x ∷ xs) ys h = (h x (inl refl), fits_replicate xs ys (λ z q. h z (inr q)))

-- the numbers that a renaming gives are among all renamings
pub names_have : (space : Space) (f : ℕ → ℕ → ℕ) → IsRenaming space f → Has (map (row_of f space.count) (upto space.domains)) (renamings space)
names_have space f n = fits_has (map (row_of f space.count) (upto space.domains)) (map (λ c. permutations (space.count c)) (upto space.domains)) (fits_pointwise (row_of f space.count) (λ c. permutations (space.count c)) 0 space.domains (λ c. one c))
  where
    one : (c : ℕ) → Has (row_of f space.count c) (permutations (space.count c))
    one c = has_filter are_apart (row_of f space.count c) (selections (replicate (space.count c) (upto (space.count c))))
        (fits_has (row_of f space.count c) (replicate (space.count c) (upto (space.count c)))
        (subst (λ (m : ℕ). Fits (row_of f space.count c) (replicate m (upto (space.count c)))) (length-map-range_with_len (f c) 0 (space.count c))
        (fits_replicate (row_of f space.count c) (upto (space.count c)) (λ x h.
        let m = has_map_from (f c) x (upto (space.count c)) h in
        let r = range_has 0 (space.count c) m.0 m.1 in
        let w = n.within c m.0 (let l = r.1 in omega arith) in
        has_range 0 (space.count c) x (omega arith) (let e = m.2 in omega arith)))))
        (apart_ranges (f c) 0 (space.count c) (λ j k p q p' q' e. n.apart c j k (omega arith) (omega arith) e))

pub names_same : (space : Space) (f : ℕ → ℕ → ℕ) (c k : ℕ) → c < space.domains → k < space.count c → name_in (map (row_of f space.count) (upto space.domains)) c k ≡ f c k
names_same space f c k hc hk =
    ap (λ (l : List ℕ). get_or l k k) (get_or-map-range_with_len (row_of f space.count) 0 space.domains c c [] hc (omega arith)) ∙ get_or-map-range_with_len (f c) 0 (space.count c) k k k hk (omega arith)

get_map : (h : ℕ → List (List ℕ)) (a n : ℕ) (names : List (List ℕ)) → Fits names (map h (range_with_len a n)) → (c : ℕ) → c < n → Has (get_or names c []) (h (a + c))
get_map h a zero names f c l = absurd (omega arith)
get_map h a (suc n) [] f c l = absurd f
get_map h a (suc n) (x ∷ names) f zero l = let e : a + 0 ≡ a = omega arith in rw e f.0
get_map h a (suc n) (x ∷ names) f (suc c) l = let e : a + suc c ≡ (a + 1) + c = omega arith in rw e (get_map h (a + 1) n names f.1 c (omega arith))

get_none : (h : ℕ → List (List ℕ)) (a n : ℕ) (names : List (List ℕ)) → Fits names (map h (range_with_len a n)) → (c : ℕ) → n ≤ c → get_or names c [] ≡ []
get_none h a zero [] f c l = refl
get_none h a zero (x ∷ names) f c l = absurd f
get_none h a (suc n) [] f c l = refl
get_none h a (suc n) (x ∷ names) f zero l = absurd (omega arith)
get_none h a (suc n) (x ∷ names) f (suc c) l = get_none h (a + 1) n names f.1 c (omega arith)

replicate_fits : (n : ℕ) (m : ℕ) (xs : List ℕ) → Fits xs (replicate m (upto n)) → (length xs ≡ m) × ((k : ℕ) → k < length xs → get_or xs k k < n)
replicate_fits n zero [] f = (refl, λ k l. absurd (omega arith))
replicate_fits n zero (x ∷ xs) f = absurd f
replicate_fits n (suc m) [] f = absurd f
replicate_fits n (suc m) (x ∷ xs) f = let r = replicate_fits n m xs f.1 in (let e = r.0 in omega arith, each (range_has 0 n x f.0).1 r.1)
  where
    each : x < 0 + n → ((k : ℕ) → k < length xs → get_or xs k k < n) → (k : ℕ) → k < length (x ∷ xs) → get_or (x ∷ xs) k k < n
    each p r zero l = omega arith
    each p r (suc k) l = let q = any_default xs k (suc k) k (omega arith) in rw q (r k (omega arith))

pub names_rename : (space : Space) (names : List (List ℕ)) → Has names (renamings space) → IsRenaming space (name_in names)
names_rename space names h = record { within = λ c k l. (row c (cases_lt c space.domains)).0 k l; apart = λ c j k hj hk e. (row c (cases_lt c space.domains)).1 j k hj hk e }
  where
    f : Fits names (map (λ c. permutations (space.count c)) (upto space.domains))
    f = has_fits names (map (λ c. permutations (space.count c)) (upto space.domains)) h

    row : (c : ℕ) → (c < space.domains) ⊎ (space.domains ≤ c) → ((k : ℕ) → k < space.count c → name_in names c k < space.count c) × ((j k : ℕ) → j < space.count c → k < space.count c → name_in names c j ≡ name_in names c k → j ≡ k)
    row c (inr ge) = let e : get_or names c [] ≡ [] = get_none (λ x. permutations (space.count x)) 0 space.domains names f c ge in (λ k l. rw e l, λ j k hj hk q. rw e at q)
    row c (inl lt) =
        let z : 0 + c ≡ c = omega arith in
        let p : Has (get_or names c []) (permutations (space.count c)) = subst (λ (x : ℕ). Has (get_or names c []) (permutations (space.count x))) z (get_map (λ x. permutations (space.count x)) 0 space.domains names f c lt) in
        let q = has_filter_from are_apart (get_or names c []) (selections (replicate (space.count c) (upto (space.count c)))) p in
        let r = replicate_fits (space.count c) (space.count c) (get_or names c []) (has_fits (get_or names c []) (replicate (space.count c) (upto (space.count c))) q.0) in
        (λ k l. r.1 k (let e = r.0 in omega arith), λ j k hj hk e'. apart_at (get_or names c []) q.1 j k (let e = r.0 in omega arith) (let e = r.0 in omega arith) e')
