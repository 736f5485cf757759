-- The declarations of classes in order.
use Rattle.std.proofs.Common.{◌≡◌, refl, sym, ap, ◌∙◌, ℕ, zero, suc, ◌+◌, ◌<◌, ◌≤◌, List, [], ◌∷◌, ◌++◌, length, take, get_or, arith, add-one, append-nil, append_assoc, length-append, ◌⊎◌, inl, inr}
use Rattle.std.specs.Prelude.{flat_map, option_to_list, slice_get}
use Rattle.std.proofs.lemmas.List.{get_or_append_left}
use Rattle.std.proofs.Math.Seq.{get_or-append_seam}
use Rattle.kr_classes_table.specs.Table.{Table, Class, class_at}
use Rattle.kr_classes_members.specs.Rosters.{AreFirst, first_of}
use Rattle.kr_base.proofs.ListLemmas.{slice_get-append_add}

-- with one class more
pub one_more : {A : Type 0} (part : Class → List A) (ks : List Class) (c : ℕ) → flat_map part (take (c + 1) ks) ≡ flat_map part (take c ks) ++ flat_map part (option_to_list (class_at ks c))
one_more part ks c = ap (λ n. flat_map part (take n ks)) (add-one c) ∙ go ks c
  where
    go : (ks : List Class) (c : ℕ) → flat_map part (take (suc c) ks) ≡ flat_map part (take c ks) ++ flat_map part (option_to_list (class_at ks c))
    go [] zero = refl
    go [] (suc c) = refl
    go (k ∷ ks) zero = refl
    go (k ∷ ks) (suc c) = ap (λ w. part k ++ w) (go ks c) ∙ sym (append_assoc (part k) (flat_map part (take c ks)) (flat_map part (option_to_list (class_at ks c))))

pub first_push : {A : Type 0} (part : Class → List A) (t : Table) (ns more : List ℕ) (x : ℕ) → AreFirst part t ns → more ≡ ns ++ x ∷ [] → x ≡ first_of part t (length ns) → AreFirst part t more
first_push part t ns more x first is e c h =
    let l : length more ≡ length ns + 1 = ap length is ∙ length-append ns (x ∷ []) in
    ap (λ w. get_or w c 0) is ∙ go (cases c (length ns) (omega (arith, h, l)))
  where
    cases : (a b : ℕ) → a < b + 1 → (a < b) ⊎ (a ≡ b)
    cases a zero k = inr (omega (arith, k))
    cases zero (suc b) k = inl (omega arith)
    cases (suc a) (suc b) k = elim (cases a b (omega (arith, k))) [ inl l ↦ inl (omega (arith, l)) | inr r ↦ inr (omega (arith, r)) ]

    go : (c < length ns) ⊎ (c ≡ length ns) → get_or (ns ++ x ∷ []) c 0 ≡ first_of part t c
    go (inl l) = get_or_append_left ns (x ∷ []) 0 c l ∙ first c l
    go (inr r) = ap (λ w. get_or (ns ++ x ∷ []) w 0) r ∙ (get_or-append_seam ns x [] 0 ∙ (e ∙ ap (first_of part t) (sym r)))

got_left : {A : Type 0} (xs ys : List A) (i : ℕ) → i < length xs → slice_get (xs ++ ys) i ≡ slice_get xs i
got_left [] ys i h = absurd (omega (arith, h))
got_left (x ∷ xs) ys zero h = refl
got_left (x ∷ xs) ys (suc i) h = got_left xs ys i (omega (arith, h))

-- an item of a class among those of all
pub section : {A : Type 0} (part : Class → List A) (ks : List Class) (c j : ℕ) → j < length (flat_map part (option_to_list (class_at ks c)))
    → slice_get (flat_map part ks) (length (flat_map part (take c ks)) + j) ≡ slice_get (flat_map part (option_to_list (class_at ks c))) j
section part [] c j h = absurd (omega (arith, h))
section part (k ∷ ks) zero j h =
    let e : 0 + j ≡ j = omega arith in
    let n : length (part k ++ []) ≡ length (part k) = ap length (append-nil (part k)) in
    ap (slice_get (flat_map part (k ∷ ks))) e ∙ (got_left (part k) (flat_map part ks) j (omega (arith, h, n)) ∙ ap (λ w. slice_get w j) (sym (append-nil (part k))))
section part (k ∷ ks) (suc c) j h =
    let before = flat_map part (take c ks) in
    let e : length (part k ++ before) + j ≡ length (part k) + (length before + j) = omega (arith, length-append (part k) before) in
    ap (slice_get (flat_map part (k ∷ ks))) e ∙ (slice_get-append_add (part k) (flat_map part ks) (length before + j) ∙ section part ks c j h)

pub section_below : {A : Type 0} (part : Class → List A) (ks : List Class) (c j : ℕ) → j < length (flat_map part (option_to_list (class_at ks c))) → length (flat_map part (take c ks)) + j < length (flat_map part ks)
section_below part [] c j h = absurd (omega (arith, h))
section_below part (k ∷ ks) zero j h = omega (arith, h, length-append (part k) (flat_map part ks), length-append (part k) [])
section_below part (k ∷ ks) (suc c) j h = omega (arith, section_below part ks c j h, length-append (part k) (flat_map part ks), length-append (part k) (flat_map part (take c ks)))

pub no_section : {A : Type 0} (part : Class → List A) (ks : List Class) (c : ℕ) → length ks ≤ c → flat_map part (option_to_list (class_at ks c)) ≡ []
no_section part [] c h = refl
no_section part (k ∷ ks) zero h = absurd (omega (arith, h))
no_section part (k ∷ ks) (suc c) h = no_section part ks c (omega (arith, h))
