-- Places of names.
use Rattle.std.proofs.Common.{◌≡◌, refl, ap, ◌∙◌, ℕ, ◌+◌, Bool, true, false, List, [], ◌∷◌, ◌++◌, length, map, bytes_eq, if◌then◌else◌, arith}
use Rattle.std.specs.Prelude.{Option, Some, None, is_some}
use Rattle.std.specs.List.{position_from}
use Rattle.std.specs.Map.{lookup}
use Rattle.std.proofs.lemmas.Slice.Eq.{bytes_eq-Decides}
use Rattle.kr_classes_table.specs.Constants.{or_else}
use Rattle.kr_classes_names.specs.Listed.{place_of}

pub looked : {K : Type 0} (f : K → List ℕ) (q : List ℕ) (es : List (K × ℕ)) → lookup (λ k. bytes_eq q (f k)) es ≡ place_of q (map (λ e. (f e.0, e.1)) es)
looked f q [] = refl
looked f q (e ∷ es) = ap (λ r. if bytes_eq q (f e.0) then Some e.1 else r) (looked f q es)

pub choice_or : (b : Bool) (x : ℕ) (r s : Option ℕ) → (if b then Some x else or_else r s) ≡ or_else (if b then Some x else r) s
choice_or true x r s = refl
choice_or false x r s = refl

pub position_push : (t : List ℕ → Bool) (k : ℕ) (xs : List (List ℕ)) (x : List ℕ) → position_from t k (xs ++ x ∷ []) ≡ or_else (position_from t k xs) (if t x then Some (k + length xs) else None)
position_push t k [] x = ap (λ n. if t x then Some n else None) (omega arith)
position_push t k (y ∷ ys) x =
    let e : k + 1 + length ys ≡ k + length (y ∷ ys) = omega arith in
    ap (λ r. if t y then Some k else r) (position_push t (k + 1) ys x ∙ ap (λ n. or_else (position_from t (k + 1) ys) (if t x then Some n else None)) e)
    ∙ choice_or (t y) k (position_from t (k + 1) ys) (if t x then Some (k + length (y ∷ ys)) else None)

pub place_push : (q : List ℕ) (es : List (List ℕ × ℕ)) (e : List ℕ × ℕ) → place_of q (es ++ e ∷ []) ≡ or_else (place_of q es) (if bytes_eq q e.0 then Some e.1 else None)
place_push q [] e = refl
place_push q (d ∷ es) e = ap (λ r. if bytes_eq q d.0 then Some d.1 else r) (place_push q es e) ∙ choice_or (bytes_eq q d.0) d.1 (place_of q es) (if bytes_eq q e.0 then Some e.1 else None)

pub present : (o : Option ℕ) (b : Bool) (l : ℕ) → (b ≡ true → is_some o ≡ true) → o ≡ or_else o (if b then Some l else None)
present (Some x) b l h = refl
present None true l h = absurd (cc (h refl))
present None false l h = refl

pub same_name : (m n : List ℕ) → bytes_eq m n ≡ true → m ≡ n
same_name m n e = grind (arith, bytes_eq-Decides m n, e)

pub none_from : {A : Type 0} (o : Option A) → is_some o ≡ false → o ≡ None
none_from None h = refl
none_from (Some x) h = absurd (cc (h))
