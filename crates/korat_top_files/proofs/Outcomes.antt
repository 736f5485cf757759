-- How steps follow each other, and that each has one outcome.
use Rattle.std.proofs.Common.{◌≡◌, ℕ, suc, ◌+◌, ◌<◌, inl, inr, List, [], ◌∷◌, ◌++◌, length, take, drop, get_or, drop-cons, refl, sym, ap, ◌∙◌, subst, arith}
use Rattle.std.proofs.lemmas.List.{length-take, take-append-drop, take_more}
use Rattle.std.specs.Prelude.{Result, Ok, Err}
use Rattle.korat_top_files.specs.declared.refusal.Stop.{Stop}
use Rattle.korat_top_files.specs.declared.refusal.Stop.TheVariants.{Read, Refused, Memory}
use Rattle.korat_top_files.specs.Refusals.{Refusal, refusal_of}
use Rattle.korat_top_files.specs.Chains.{and_then, each}
use Rattle.korat_top_files.specs.Found.{Meets, StopsBy}
use Rattle.korat_top_files.specs.OneOutcome.{HasOne}

-- ---- a step over items in order

next_number : {A : Type 0} (n : ℕ) (item : A) (items : List A) → n + length (item ∷ items) ≡ (n + 1) + length items
next_number n item items = omega arith

-- one item more
pub each_more : {A B : Type 0} (step : ℕ → A → Result B Refusal → Type 0) (n : ℕ) (items : List A) (made : List B) (a : A) (b : B)
    → each step n items (Ok made) → step (n + length items) a (Ok b) → each step n (items ++ a ∷ []) (Ok (made ++ b ∷ []))
each_more {A} step n [] [] a b h s =
    let none : n + length (let nil : List A = [] in nil) ≡ n = omega arith in
    (subst (λ k. step k a (Ok b)) none s, tt)
each_more step n [] (m ∷ made) a b h s = absurd h
each_more step n (i ∷ items) [] a b h s = absurd h
each_more step n (i ∷ items) (m ∷ made) a b h s = (h.0, each_more step (n + 1) items made a b h.1 (subst (λ k. step k a (Ok b)) (next_number n i items) s))

-- a refusal after some items
pub each_stop : {A B : Type 0} (step : ℕ → A → Result B Refusal → Type 0) (n : ℕ) (items : List A) (made : List B) (a : A) (rest : List A) (r : Refusal)
    → each step n items (Ok made) → step (n + length items) a (Err r) → each step n (items ++ a ∷ rest) (Err r)
each_stop {A} step n [] [] a rest r h s =
    let none : n + length (let nil : List A = [] in nil) ≡ n = omega arith in
    inl (subst (λ k. step k a (Err r)) none s)
each_stop step n [] (m ∷ made) a rest r h s = absurd h
each_stop step n (i ∷ items) [] a rest r h s = absurd h
each_stop step n (i ∷ items) (m ∷ made) a rest r h s = inr (m, h.0, each_stop step (n + 1) items made a rest r h.1 (subst (λ k. step k a (Err r)) (next_number n i items) s))

-- ---- a step over items by their numbers

number_of : {A : Type 0} (items : List A) (i : ℕ) → i < length items → 0 + length (take i items) ≡ i
number_of items i h = omega (arith, length-take i items, h)

-- the next item
pub each_next : {A B : Type 0} (step : ℕ → A → Result B Refusal → Type 0) (items : List A) (i : ℕ) (d : A) (made : List B) (b : B)
    → i < length items → each step 0 (take i items) (Ok made) → step i (get_or items i d) (Ok b) → each step 0 (take (i + 1) items) (Ok (made ++ b ∷ []))
each_next step items i d made b h e s =
    subst (λ xs. each step 0 xs (Ok (made ++ b ∷ []))) (sym (take_more items i d h))
    (each_more step 0 (take i items) made (get_or items i d) b e (subst (λ k. step k (get_or items i d) (Ok b)) (sym (number_of items i h)) s))

pub split_at : {A : Type 0} (items : List A) (i : ℕ) (d : A) → i < length items → take i items ++ get_or items i d ∷ drop (suc i) items ≡ items
split_at items i d h = ap (λ rest. take i items ++ rest) (sym (drop-cons items i d h)) ∙ take-append-drop i items

-- the next item is refused
pub each_refused : {A B : Type 0} (step : ℕ → A → Result B Refusal → Type 0) (items : List A) (i : ℕ) (d : A) (made : List B) (r : Refusal)
    → i < length items → each step 0 (take i items) (Ok made) → step i (get_or items i d) (Err r) → each step 0 items (Err r)
each_refused step items i d made r h e s =
    subst (λ xs. each step 0 xs (Err r)) (split_at items i d h)
    (each_stop step 0 (take i items) made (get_or items i d) (drop (suc i) items) r e (subst (λ k. step k (get_or items i d) (Err r)) (sym (number_of items i h)) s))

-- ---- work that stops

pub stops_next : {A B : Type 0} (first : Result A Refusal → Type 0) (next : A → Result B Refusal → Type 0) (a : A) (stop : Stop) → first (Ok a) → StopsBy (next a) stop → StopsBy (and_then first next) stop
stops_next first next a (Refused r) f h = inr (a, f, h)
stops_next first next a (Read file) f h = absurd h
stops_next first next a (Memory why) f h = tt

pub stops_first : {A B : Type 0} (first : Result A Refusal → Type 0) (next : A → Result B Refusal → Type 0) (stop : Stop) → StopsBy first stop → StopsBy (and_then first next) stop
stops_first first next (Refused r) h = inl h
stops_first first next (Read file) h = absurd h
stops_first first next (Memory why) h = tt

-- what is judged after a step
pub meets_next : {A B V : Type 0} (first : Result A Refusal → Type 0) (next : A → Result B Refusal → Type 0) (seen : V → B) (a : A) (r : Result V Stop) → first (Ok a) → Meets (next a) seen r → Meets (and_then first next) seen r
meets_next first next seen a (Ok v) h j = (a, h, j)
meets_next first next seen a (Err stop) h j = stops_next first next a stop h j

pub stops_each : {A B : Type 0} (step : ℕ → A → Result B Refusal → Type 0) (items : List A) (i : ℕ) (d : A) (made : List B) (stop : Stop)
    → i < length items → each step 0 (take i items) (Ok made) → StopsBy (step i (get_or items i d)) stop → StopsBy (each step 0 items) stop
stops_each step items i d made (Refused r) l e h = each_refused step items i d made (refusal_of r) l e h
stops_each step items i d made (Read file) l e h = absurd h
stops_each step items i d made (Memory why) l e h = tt

-- ---- one outcome

ok_same : {A : Type 0} (a b : A) → (let x : Result A Refusal = Ok a in x) ≡ Ok b → a ≡ b
ok_same a b e = cc (e)

err_same : {A : Type 0} (r t : Refusal) → (let x : Result A Refusal = Err r in x) ≡ Err t → r ≡ t
err_same r t e = cc (e)

ok_err : {A : Type 0} (a : A) (r : Refusal) → (let x : Result A Refusal = Ok a in x) ≡ Err r → ⊥
ok_err a r e = cc (e)

err_ok : {A : Type 0} (a : A) (r : Refusal) → (let x : Result A Refusal = Err r in x) ≡ Ok a → ⊥
err_ok a r e = cc (e)

pub one_then : {A B : Type 0} (first : Result A Refusal → Type 0) (next : A → Result B Refusal → Type 0) → HasOne first → ((a : A) → HasOne (next a)) → HasOne (and_then first next)
one_then first next f n (Ok b) (Ok c) x y =
    n y.0 (Ok b) (Ok c) (subst (λ a. next a (Ok b)) (ok_same x.0 y.0 (f (Ok x.0) (Ok y.0) x.1 y.1)) x.2) y.2
one_then first next f n (Ok b) (Err t) x (inl y) = absurd (ok_err x.0 t (f (Ok x.0) (Err t) x.1 y))
one_then first next f n (Ok b) (Err t) x (inr y) =
    n y.0 (Ok b) (Err t) (subst (λ a. next a (Ok b)) (ok_same x.0 y.0 (f (Ok x.0) (Ok y.0) x.1 y.1)) x.2) y.2
one_then first next f n (Err r) (Ok c) (inl x) y = absurd (err_ok y.0 r (f (Err r) (Ok y.0) x y.1))
one_then first next f n (Err r) (Ok c) (inr x) y =
    n y.0 (Err r) (Ok c) (subst (λ a. next a (Err r)) (ok_same x.0 y.0 (f (Ok x.0) (Ok y.0) x.1 y.1)) x.2) y.2
one_then first next f n (Err r) (Err t) (inl x) (inl y) = ap Err (err_same r t (f (Err r) (Err t) x y))
one_then first next f n (Err r) (Err t) (inl x) (inr y) = absurd (err_ok y.0 r (f (Err r) (Ok y.0) x y.1))
one_then first next f n (Err r) (Err t) (inr x) (inl y) = absurd (ok_err x.0 t (f (Ok x.0) (Err t) x.1 y))
one_then first next f n (Err r) (Err t) (inr x) (inr y) =
    n y.0 (Err r) (Err t) (subst (λ a. next a (Err r)) (ok_same x.0 y.0 (f (Ok x.0) (Ok y.0) x.1 y.1)) x.2) y.2

pub one_each : {A B : Type 0} (step : ℕ → A → Result B Refusal → Type 0) → ((n : ℕ) (a : A) → HasOne (step n a)) → (n : ℕ) (items : List A) → HasOne (each step n items)
one_each step one n [] (Ok []) (Ok []) x y = refl
one_each step one n [] (Ok []) (Ok (c ∷ cs)) x y = absurd y
one_each step one n [] (Ok []) (Err t) x y = absurd y
one_each step one n [] (Ok (b ∷ bs)) z x y = absurd x
one_each step one n [] (Err r) z x y = absurd x
one_each step one n (a ∷ items) (Ok []) z x y = absurd x
one_each step one n (a ∷ items) (Ok (b ∷ bs)) (Ok []) x y = absurd y
one_each step one n (a ∷ items) (Ok (b ∷ bs)) (Ok (c ∷ cs)) x y =
    let first : b ≡ c = ok_same b c (one n a (Ok b) (Ok c) x.0 y.0) in
    let rest : bs ≡ cs = ok_same bs cs (one_each step one (n + 1) items (Ok bs) (Ok cs) x.1 y.1) in
    ap (λ u. Ok (u ∷ bs)) first ∙ ap (λ us. Ok (c ∷ us)) rest
one_each step one n (a ∷ items) (Ok (b ∷ bs)) (Err t) x (inl y) = absurd (ok_err b t (one n a (Ok b) (Err t) x.0 y))
one_each step one n (a ∷ items) (Ok (b ∷ bs)) (Err t) x (inr y) = absurd (ok_err bs t (one_each step one (n + 1) items (Ok bs) (Err t) x.1 y.2))
one_each step one n (a ∷ items) (Err r) (Ok []) x y = absurd y
one_each step one n (a ∷ items) (Err r) (Ok (c ∷ cs)) (inl x) y = absurd (err_ok c r (one n a (Err r) (Ok c) x y.0))
one_each step one n (a ∷ items) (Err r) (Ok (c ∷ cs)) (inr x) y = absurd (err_ok cs r (one_each step one (n + 1) items (Err r) (Ok cs) x.2 y.1))
one_each step one n (a ∷ items) (Err r) (Err t) (inl x) (inl y) = ap Err (err_same r t (one n a (Err r) (Err t) x y))
one_each step one n (a ∷ items) (Err r) (Err t) (inl x) (inr y) = absurd (err_ok y.0 r (one n a (Err r) (Ok y.0) x y.1))
one_each step one n (a ∷ items) (Err r) (Err t) (inr x) (inl y) = absurd (ok_err x.0 t (one n a (Ok x.0) (Err t) x.1 y))
one_each step one n (a ∷ items) (Err r) (Err t) (inr x) (inr y) =
    ap Err (err_same r t (one_each step one (n + 1) items (Err r) (Err t) x.2 y.2))
