-- Lists that grow.
use Rattle.std.proofs.Common.{◌≡◌, sym, ap, ◌∙◌, ℕ, ◌+◌, ◌-◌, ◌≤◌, List, [], ◌∷◌, ◌++◌, length, arith, take, drop, append_assoc, length-append, length-drop}
use Rattle.std.proofs.lemmas.List.{drop-append-le}
use Rattle.std.proofs.Math.Seq.{take-append_seam}
use Rattle.std.specs.Prelude.{Some, slice_get}
use Rattle.kr_classes_names.specs.ListedTypes.{IsGrown}
use Rattle.kr_classes_names.proofs.Growing.{got_left}

pub grown_none : {A : Type 0} (xs : List A) → IsGrown xs xs
grown_none xs = record { more = []; items = sym (Rattle.std.proofs.Common.append-nil xs) }

pub grown_push : {A : Type 0} (xs ys zs : List A) (z : A) → IsGrown xs ys → zs ≡ ys ++ z ∷ [] → IsGrown xs zs
grown_push xs ys zs z g e = record { more = g.more ++ z ∷ []; items = e ∙ (ap (λ w. w ++ z ∷ []) g.items ∙ append_assoc xs g.more (z ∷ [])) }

pub grown_on : {A : Type 0} (xs ys zs : List A) → IsGrown xs ys → IsGrown ys zs → IsGrown xs zs
grown_on xs ys zs g h = record { more = g.more ++ h.more; items = h.items ∙ (ap (λ w. w ++ h.more) g.items ∙ append_assoc xs g.more h.more) }

pub grown_length : {A : Type 0} (xs ys : List A) → IsGrown xs ys → length xs ≤ length ys
grown_length xs ys g = let e : length ys ≡ length (xs ++ g.more) = ap length g.items in omega (arith, length-append xs g.more, e)

-- one item more after those left out
pub drop_push : {A : Type 0} (k : ℕ) (xs ys rest : List A) (y : A) → k ≤ length xs → ys ≡ xs ++ y ∷ [] → drop k ys ++ rest ≡ drop k xs ++ (y ∷ rest)
drop_push k xs ys rest y h e = ap (λ w. drop k w ++ rest) e ∙ (ap (λ w. w ++ rest) (drop-append-le k xs (y ∷ []) h) ∙ append_assoc (drop k xs) (y ∷ []) rest)

-- the items after the first k, when there are more
pub take_grown : {A : Type 0} (k : ℕ) (xs more : List A) → k ≤ length xs → IsGrown xs more → take (length xs - k) (drop k more) ≡ drop k xs
take_grown k xs more h g =
    let e : length xs - k ≡ length (drop k xs) = omega (arith, length-drop k xs) in
    ap (λ w. take (length xs - k) (drop k w)) g.items ∙ (ap (take (length xs - k)) (drop-append-le k xs g.more h) ∙ (ap (λ n. take n (drop k xs ++ g.more)) e ∙ take-append_seam (drop k xs) g.more))

pub got_grown : {A : Type 0} (xs ys : List A) (i : ℕ) (x : A) → IsGrown xs ys → slice_get xs i ≡ Some x → slice_get ys i ≡ Some x
got_grown xs ys i x g e = ap (λ w. slice_get w i) g.items ∙ got_left xs g.more i x e
