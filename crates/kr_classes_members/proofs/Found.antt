-- The items found by a name, by number.
use Rattle.std.proofs.Common.{◌≡◌, refl, sym, ap, ◌∙◌, ℕ, suc, ◌+◌, ◌<◌, ◌≤◌, Bool, true, false, List, [], ◌∷◌, ◌++◌, length, map, get_or, arith, append-nil, cond, bytes_eq, Option, Some, None, ◌⊎◌, inl, inr}
use Rattle.std.specs.Prelude.{flat_map, find, is_some, option_and_then, option_to_list, slice_get, IfSome}
use Rattle.std.specs.List.{position_from}
use Rattle.std.proofs.lemmas.Option.{slice_get_cases}
use Rattle.kr_classes_names.proofs.ClassNumbers.{turned}
use Rattle.kr_classes_members.proofs.Names.{first_of_name}
use Rattle.kr_classes_table.specs.Table.{Table, Class, class_at}
use Rattle.kr_classes_members.specs.Rosters.{first_of}
use Rattle.kr_classes_members.proofs.Sections.{no_section, section, section_below}

below_or : (b : Bool) (k n : ℕ) (o : Option ℕ) (j : ℕ) → ((i : ℕ) → o ≡ Some i → i < k + 1 + n) → cond b (Some k) o ≡ Some j → j < k + suc n
below_or true k n o j h e = let i : k ≡ j = cc in omega (arith, i)
below_or false k n o j h e = omega (arith, h j e)

position_below : {A : Type 0} (p : A → Bool) (k : ℕ) (xs : List A) (j : ℕ) → position_from p k xs ≡ Some j → j < k + length xs
position_below p k [] j e = absurd (cc)
position_below p k (x ∷ xs) j e = below_or (p x) k (length xs) (position_from p (k + 1) xs) j (λ i h. position_below p (k + 1) xs i h) e

found_turned : {A : Type 0} (name : A → List ℕ) (n : List ℕ) (xs : List A) → find (λ x. bytes_eq n (name x)) xs ≡ find (λ x. bytes_eq (name x) n) xs
found_turned name n [] = refl
found_turned name n (x ∷ xs) = ap (λ b. cond b (Some x) (find (λ y. bytes_eq n (name y)) xs)) (turned n (name x)) ∙ ap (λ o. cond (bytes_eq (name x) n) (Some x) o) (found_turned name n xs)

-- which of a class's own is found, by what its number gives
own_found : {A : Type 0} (part : Class → List A) (name : A → List ℕ) (t : Table) (c : ℕ) (n : List ℕ) (o : Option ℕ) → o ≡ position_from (bytes_eq n) 0 (map name (flat_map part (option_to_list (class_at t.classes c))))
    → option_and_then (slice_get (flat_map part (option_to_list (class_at t.classes c)))) o ≡ find (λ x. bytes_eq (name x) n) (flat_map part (option_to_list (class_at t.classes c)) ++ [])
own_found part name t c n o e =
    let own = flat_map part (option_to_list (class_at t.classes c)) in
    ap (option_and_then (slice_get own)) e ∙ (first_of_name name n own ∙ (found_turned name n own ∙ ap (find (λ x. bytes_eq (name x) n)) (sym (append-nil own))))

own_below : {A : Type 0} (part : Class → List A) (name : A → List ℕ) (t : Table) (c : ℕ) (n : List ℕ) (j : ℕ) → Some j ≡ position_from (bytes_eq n) 0 (map name (flat_map part (option_to_list (class_at t.classes c))))
    → j < length (flat_map part (option_to_list (class_at t.classes c)))
own_below part name t c n j e =
    let own = flat_map part (option_to_list (class_at t.classes c)) in
    omega (arith, position_below (bytes_eq n) 0 (map name own) j (sym e), Rattle.std.proofs.lemmas.List.length-map own name)

pub numbered : {A : Type 0} (part : Class → List A) (name : A → List ℕ) (t : Table) (c : ℕ) (n : List ℕ) (j k : ℕ) → Some j ≡ position_from (bytes_eq n) 0 (map name (flat_map part (option_to_list (class_at t.classes c)))) → k ≡ first_of part t c + j
    → slice_get (flat_map part t.classes) k ≡ find (λ x. bytes_eq (name x) n) (flat_map part (option_to_list (class_at t.classes c)) ++ [])
numbered part name t c n j k e is = ap (slice_get (flat_map part t.classes)) is ∙ (section part t.classes c j (own_below part name t c n j e) ∙ own_found part name t c n (Some j) e)

pub numbered_below : {A : Type 0} (part : Class → List A) (name : A → List ℕ) (t : Table) (c : ℕ) (n : List ℕ) (j k : ℕ) → Some j ≡ position_from (bytes_eq n) 0 (map name (flat_map part (option_to_list (class_at t.classes c)))) → k ≡ first_of part t c + j → k < length (flat_map part t.classes)
numbered_below part name t c n j k e is = omega (arith, is, section_below part t.classes c j (own_below part name t c n j e))

pub not_numbered : {A : Type 0} (part : Class → List A) (name : A → List ℕ) (t : Table) (c : ℕ) (n : List ℕ) → None ≡ position_from (bytes_eq n) 0 (map name (flat_map part (option_to_list (class_at t.classes c))))
    → None ≡ find (λ x. bytes_eq (name x) n) (flat_map part (option_to_list (class_at t.classes c)) ++ [])
not_numbered part name t c n e = own_found part name t c n None e

-- a class past the end has no item of a name
pub no_class : {A : Type 0} (part : Class → List A) (name : A → List ℕ) (t : Table) (c : ℕ) (n : List ℕ) (j : ℕ) → length t.classes ≤ c → Some j ≡ position_from (bytes_eq n) 0 (map name (flat_map part (option_to_list (class_at t.classes c)))) → ⊥
no_class part name t c n j h e = let b = own_below part name t c n j e in let z = ap length (no_section part t.classes c h) in omega (arith, b, z)

-- ---- on the line of a class

pub missing : {A : Type 0} (all : List A) (o : Option ℕ) (r : Option A) → option_and_then (slice_get all) o ≡ r → is_some o ≡ false → r ≡ None
missing all None r e f = sym e
missing all (Some k) r e f = absurd (cc (f))

pub present : {A : Type 0} (all : List A) (o : Option ℕ) (r : Option A) → option_and_then (slice_get all) o ≡ r → IfSome o (λ k. k < length all) → is_some o ≡ true → is_some r ≡ true
present all None r e w f = absurd (cc (f))
present all (Some k) r e w f = ap is_some (sym e) ∙ go (slice_get_cases all k).1
  where
    go : ((x : _) × (k < length all) × (slice_get all k ≡ Some x) × (get_or all k x ≡ x)) ⊎ ((length all ≤ k) × (slice_get all k ≡ None)) → is_some (slice_get all k) ≡ true
    go (inl v) = ap is_some v.2
    go (inr v) = absurd (omega (arith, v.0, w))

pub past : {A : Type 0} (xs : List A) (i : ℕ) → slice_get xs i ≡ None → length xs ≤ i
past xs i e = go (slice_get_cases xs i).1
  where
    go : ((x : _) × (i < length xs) × (slice_get xs i ≡ Some x) × (get_or xs i x ≡ x)) ⊎ ((length xs ≤ i) × (slice_get xs i ≡ None)) → length xs ≤ i
    go (inl v) = let is = v.2 in absurd (cc)
    go (inr v) = v.0
