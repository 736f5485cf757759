-- Lists of kept values, the top one first.
use Rattle.std.proofs.Common.{◌≡◌, ℕ, zero, suc, ◌+◌, ◌<◌, ◌≤◌, true, false, if◌then◌else◌, List, [], ◌∷◌, ◌++◌, length, take, drop, reverse, Some, None, refl, sym, ap, ◌∙◌, arith, length-drop, add-one}
use Rattle.std.specs.Prelude.{slice_get}
use Rattle.std.proofs.lemmas.List.{take-append-drop, length-reverse, reverse-append, drop_at, set-append_left}
use Rattle.std.proofs.Math.ListN.{set}
use Rattle.std.proofs.Math.Seq.{set-append_seam}
use Rattle.kr_parse_reduction.specs.declared.value.Kept.{Kept}
use Rattle.kr_parse_reduction.specs.declared.value.Sort.{Sort}
use Rattle.kr_parse_reduction.specs.Kept.{is_of, are}

pub reverse_take : (xs : List Kept) (k n : ℕ) → k + n ≡ length xs → reverse (take k xs) ≡ drop n (reverse xs)
reverse_take xs k n e =
    let l : length (reverse (drop k xs)) ≡ n = length-reverse (drop k xs) ∙ length-drop k xs ∙ omega arith in
    sym (ap (λ (ys : List Kept). drop n (reverse ys)) (sym (take-append-drop k xs))
    ∙ ap (λ (ys : List Kept). drop n ys) (reverse-append (take k xs) (drop k xs))
    ∙ drop_at (reverse (drop k xs)) (reverse (take k xs)) n l)

pub reverse_set : (xs : List Kept) (k d : ℕ) (v : Kept) → k + d + 1 ≡ length xs → reverse (set xs k v) ≡ set (reverse xs) d v
reverse_set [] k d v e = absurd (omega arith)
reverse_set (x ∷ xs) zero d v e =
    let l : d ≡ length (reverse xs) = omega (arith, length-reverse xs) in
    reverse-append (v ∷ []) xs ∙ sym (ap (λ (ys : List Kept). set ys d v) (reverse-append (x ∷ []) xs)
    ∙ ap (λ (n : ℕ). set (reverse xs ++ x ∷ []) n v) l ∙ set-append_seam (reverse xs) x [] v)
reverse_set (x ∷ xs) (suc k) d v e =
    let l : d < length (reverse xs) = omega (arith, length-reverse xs) in
    reverse-append (x ∷ []) (set xs k v) ∙ ap (λ (ys : List Kept). ys ++ x ∷ []) (reverse_set xs k d v (omega arith))
    ∙ sym (ap (λ (ys : List Kept). set ys d v) (reverse-append (x ∷ []) xs) ∙ set-append_left (reverse xs) (x ∷ []) d v l)

are_step : (ss : List Sort) (vs : List Kept) (k : ℕ) (s : Sort) (v : Kept) → slice_get ss k ≡ Some s → slice_get vs k ≡ Some v
    → are (drop k ss) (drop k vs) ≡ (if is_of s v then are (drop (suc k) ss) (drop (suc k) vs) else false)
are_step [] vs k s v p q = cc
are_step (x ∷ ss) [] k s v p q = cc
are_step (x ∷ ss) (y ∷ vs) zero s v p q =
    let e : x ≡ s = cc in
    let f : y ≡ v = cc in
    rw (e, f) refl
are_step (x ∷ ss) (y ∷ vs) (suc k) s v p q = are_step ss vs k s v p q

pub are_more : (ss : List Sort) (vs : List Kept) (k : ℕ) (s : Sort) (v : Kept) → slice_get ss k ≡ Some s → slice_get vs k ≡ Some v → is_of s v ≡ true
    → are (drop k ss) (drop k vs) ≡ are (drop (k + 1) ss) (drop (k + 1) vs)
are_more ss vs k s v p q e = are_step ss vs k s v p q ∙ rw (e, add-one) refl

pub are_wrong : (ss : List Sort) (vs : List Kept) (k : ℕ) (s : Sort) (v : Kept) → slice_get ss k ≡ Some s → slice_get vs k ≡ Some v → is_of s v ≡ false
    → are (drop k ss) (drop k vs) ≡ false
are_wrong ss vs k s v p q e = are_step ss vs k s v p q ∙ rw e refl

pub are_short : (ss : List Sort) (vs : List Kept) (k : ℕ) (s : Sort) → slice_get ss k ≡ Some s → slice_get vs k ≡ None → are (drop k ss) (drop k vs) ≡ false
are_short [] vs k s p q = cc
are_short (x ∷ ss) [] zero s p q = refl
are_short (x ∷ ss) [] (suc k) s p q = are_none ss k s p
  where
    are_none : (ss : List Sort) (k : ℕ) (s : Sort) → slice_get ss k ≡ Some s → are (drop k ss) [] ≡ false
    are_none [] k s p = cc
    are_none (x ∷ ss) zero s p = refl
    are_none (x ∷ ss) (suc k) s p = are_none ss k s p
are_short (x ∷ ss) (y ∷ vs) zero s p q = cc
are_short (x ∷ ss) (y ∷ vs) (suc k) s p q = are_short ss vs k s p q

pub none_behind : (vs : List Kept) (k : ℕ) → length vs ≤ k → slice_get vs k ≡ None
none_behind [] k h = refl
none_behind (v ∷ vs) zero h = absurd (omega arith)
none_behind (v ∷ vs) (suc k) h = none_behind vs k (omega arith)

-- a value below another, replacing those that were there
pub tucked : (xs : List Kept) (b c n m : ℕ) (v a : Kept) → b + c ≡ length xs → 2 ≤ c → n ≡ b + 1 → m ≡ b + 2 → take m (set (set xs n a) b v) ≡ take b xs ++ v ∷ a ∷ []
tucked [] b c n m v a e l p q = absurd (omega arith)
tucked (x ∷ []) zero c n m v a e l p q = absurd (omega arith)
tucked (x ∷ y ∷ ys) zero c n m v a e l p q = rw (p, q) refl
tucked (x ∷ xs) (suc b) c n m v a e l p q =
    let r : n ≡ suc (b + 1) = omega arith in
    let s : m ≡ suc (b + 2) = omega arith in
    rw (r, s) (ap (λ (ys : List Kept). x ∷ ys) (tucked xs b c (b + 1) (b + 2) v a (omega arith) l refl refl))
