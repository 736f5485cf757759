-- Members whose names occurred before.
use Rattle.std.proofs.Common.{◌≡◌, refl, sym, ap, ◌∙◌, ℕ, zero, suc, ◌+◌, ◌<◌, Bool, true, false, ◌||◌, not, List, [], ◌∷◌, ◌++◌, length, map, take, get_or, append-nil, append_assoc, zero-add, nat_eq, bytes_eq, cond, arith}
use Rattle.std.specs.Prelude.{Option, Some, find, is_some}
use Rattle.std.specs.List.{position_from}
use Rattle.std.proofs.lemmas.List.{map-append, take_more, take-map, length-map}
use Rattle.kr_base.specs.declared.place.Place.{Place}
use Rattle.kr_classes_table.specs.Table.{is_number}
use Rattle.kr_classes_table.specs.Rules.{break_if, is_name_among, least, repeated, sooner}
use Rattle.kr_classes_names.proofs.ClassNumbers.{turned}
use Rattle.kr_classes.specs.Faults.{fault_at}
use Rattle.kr_classes.proofs.Repeated.{among_onto, onto}
use Rattle.kr_classes.proofs.Sooner.{least_append}
use Rattle.kr_classes_names.proofs.Same.{itself}

-- ---- whether a name occurred before an index

same_number : (k : ℕ) → nat_eq k (k + 0) ≡ true
same_number k = grind arith

less_number : (k i : ℕ) → nat_eq k (k + suc i) ≡ false
less_number k i = grind arith

own_place : (b : Bool) (k : ℕ) (o : Option ℕ) → b ≡ true → not (is_number (cond b (Some k) o) (Some (k + 0))) ≡ false
own_place b k o e = ap (λ x. not (is_number (cond x (Some k) o) (Some (k + 0)))) e ∙ ap not (same_number k)

by_head : (b : Bool) (k i : ℕ) (o : Option ℕ) (r : Bool) → not (is_number o (Some (k + suc i))) ≡ r → not (is_number (cond b (Some k) o) (Some (k + suc i))) ≡ b || r
by_head true k i o r e = ap not (less_number k i)
by_head false k i o r e = e

onwards : (k i : ℕ) → k + 1 + i ≡ k + suc i
onwards k i = omega arith

before : (k i : ℕ) (ns : List (List ℕ)) (n d : List ℕ) → i < length ns → n ≡ get_or ns i d → not (is_number (position_from (bytes_eq n) k ns) (Some (k + i))) ≡ is_name_among n (take i ns)
before k i [] n d l e = absurd (omega (arith, l))
before k zero (m ∷ ms) n d l e = own_place (bytes_eq n m) k (position_from (bytes_eq n) (k + 1) ms) (ap (bytes_eq n) (sym e) ∙ itself n)
before k (suc i) (m ∷ ms) n d l e =
    by_head (bytes_eq n m) k i (position_from (bytes_eq n) (k + 1) ms) (is_name_among n (take i ms))
    (ap (λ j. not (is_number (position_from (bytes_eq n) (k + 1) ms) (Some j))) (sym (onwards k i)) ∙ before (k + 1) i ms n d (omega (arith, l)) e)

either : (a b : Bool) → a || b ≡ b || a
either true true = refl
either true false = refl
either false true = refl
either false false = refl

-- the name is in the base or occurred before
pub again : (base ns : List (List ℕ)) (n d : List ℕ) (i : ℕ) → i < length ns → n ≡ get_or ns i d → is_name_among n base || not (is_number (position_from (bytes_eq n) 0 ns) (Some i)) ≡ is_name_among n (onto base (take i ns))
again base ns n d i l e =
    ap (λ j. is_name_among n base || not (is_number (position_from (bytes_eq n) 0 ns) (Some j))) (sym (zero-add i))
    ∙ ap (λ b. is_name_among n base || b) (before 0 i ns n d l e)
    ∙ either (is_name_among n base) (is_name_among n (take i ns))
    ∙ sym (among_onto n base (take i ns))

-- ---- the faults, one more

repeated_more : (r : ℕ) (base : List (List ℕ)) (xs : List (List ℕ × Place)) (n : List ℕ) (p : Place) → repeated r base (xs ++ (n, p) ∷ []) ≡ repeated r base xs ++ break_if (is_name_among n (onto base (map (λ (x : List ℕ × Place). x.0) xs))) r p
unfolding onto
repeated_more r base [] n p = append-nil (break_if (is_name_among n base) r p)
repeated_more r base ((m, q) ∷ xs) n p =
    ap (λ fs. break_if (is_name_among m base) r q ++ fs) (repeated_more r (m ∷ base) xs n p)
    ∙ sym (append_assoc (break_if (is_name_among m base) r q) (repeated r (m ∷ base) xs) (break_if (is_name_among n (onto (m ∷ base) (map (λ (x : List ℕ × Place). x.0) xs))) r p))

names_of : {A : Type 0} (name : A → List ℕ) (place : A → Place) (xs : List A) → map (λ (x : List ℕ × Place). x.0) (map (λ x. (name x, place x)) xs) ≡ map name xs
names_of name place [] = refl
names_of name place (x ∷ xs) = ap (λ ns. name x ∷ ns) (names_of name place xs)

name_at : {A : Type 0} (name : A → List ℕ) (xs : List A) (i : ℕ) (d : A) → i < length xs → name (get_or xs i d) ≡ get_or (map name xs) i []
name_at name [] i d l = absurd (omega (arith, l))
name_at name (x ∷ xs) zero d l = refl
name_at name (x ∷ xs) (suc i) d l = name_at name xs i d (omega (arith, l))

-- the first of them with one member more
pub one_more : {A : Type 0} (r : ℕ) (base : List (List ℕ)) (name : A → List ℕ) (place : A → Place) (xs : List A) (i : ℕ) (d : A) (is_repeated : Bool) (first here new : Option Place) → i < length xs
    → fault_at r first ≡ least (repeated r base (map (λ x. (name x, place x)) (take i xs)))
    → ((s : ℕ) → fault_at s new ≡ sooner (fault_at s first) (fault_at s here))
    → fault_at r here ≡ least (break_if is_repeated r (place (get_or xs i d)))
    → is_repeated ≡ is_name_among (name (get_or xs i d)) base || not (is_number (position_from (bytes_eq (name (get_or xs i d))) 0 (map name xs)) (Some i))
    → fault_at r new ≡ least (repeated r base (map (λ x. (name x, place x)) (take (i + 1) xs)))
one_more r base name place xs i d is_repeated first here new l f s h e =
    let x = get_or xs i d in
    let done = repeated r base (map (λ y. (name y, place y)) (take i xs)) in
    let ns = map name xs in
    let m : i < length ns = omega (arith, l, length-map xs name) in
    let asked : is_repeated ≡ is_name_among (name x) (onto base (map (λ (y : List ℕ × Place). y.0) (map (λ y. (name y, place y)) (take i xs)))) =
    e ∙ again base ns (name x) [] i m (name_at name xs i d l) ∙ ap (λ ys. is_name_among (name x) (onto base ys)) (take-map name i xs ∙ sym (names_of name place (take i xs))) in
    s r
    ∙ ap (λ o. sooner o (fault_at r here)) f
    ∙ ap (sooner (least done)) (h ∙ ap (λ b. least (break_if b r (place x))) asked)
    ∙ sym (least_append done (break_if (is_name_among (name x) (onto base (map (λ (y : List ℕ × Place). y.0) (map (λ y. (name y, place y)) (take i xs))))) r (place x)))
    ∙ ap least (sym (repeated_more r base (map (λ y. (name y, place y)) (take i xs)) (name x) (place x)))
    ∙ ap (λ ys. least (repeated r base ys)) (sym (map-append (λ y. (name y, place y)) (take i xs) (x ∷ [])) ∙ ap (map (λ y. (name y, place y))) (sym (take_more xs i d l)))

-- ---- names that are found

some_or : {A : Type 0} (b : Bool) (x : A) (o : Option A) → is_some (cond b (Some x) o) ≡ b || is_some o
some_or true x o = refl
some_or false x o = refl

-- a name is found exactly where it is among those
pub found_among : {A : Type 0} (name : A → List ℕ) (n : List ℕ) (xs : List A) → is_some (find (λ x. bytes_eq (name x) n) xs) ≡ is_name_among n (map name xs)
found_among name n [] = refl
found_among name n (x ∷ xs) =
    some_or (bytes_eq (name x) n) x (find (λ y. bytes_eq (name y) n) xs)
    ∙ ap (λ b. b || is_some (find (λ y. bytes_eq (name y) n) xs)) (turned (name x) n)
    ∙ ap (λ b. bytes_eq n (name x) || b) (found_among name n xs)
