-- Lists whose first items are removed.
use Rattle.std.specs.Prelude.{◌≡◌, ℕ, suc, ◌+◌, ◌<◌, ◌≤◌, List, ◌++◌, length, drop, take, slice_set}
use Rattle.std.specs.List.{remove}
use Rattle.std.proofs.Common.{arith, ap, sym, ◌∙◌}
use Rattle.std.proofs.lemmas.List.{drop-append-le, drop-take, drop-drop, drop-set-add, length-take-le}

-- removing an element after the front
pub drop_removed : {X : Type 0} (g a : ℕ) (xs : List X) → g + a < length xs → drop g (remove xs (g + a)) ≡ remove (drop g xs) a
drop_removed g a xs below =
    let fits : g ≤ length (take (g + a) xs) = omega (arith, length-take-le (g + a) xs (omega (arith, below))) in
    let on : suc (g + a) ≡ g + suc a = omega arith in
    drop-append-le g (take (g + a) xs) (drop (suc (g + a)) xs) fits
    ∙ ap (λ front. front ++ drop (suc (g + a)) xs) (drop-take g a xs)
    ∙ ap (λ rest. take a (drop g xs) ++ rest) (ap (λ n. drop n xs) on ∙ sym (drop-drop (suc a) g xs))

-- replacing an element after the front
pub drop_replaced : {X : Type 0} (g a : ℕ) (xs : List X) (x : X) → drop g (slice_set xs (g + a) x) ≡ slice_set (drop g xs) a x
drop_replaced g a xs x = drop-set-add g xs a x

-- keeping only the first elements after the front
pub drop_taken : {X : Type 0} (g a : ℕ) (xs : List X) → drop g (take (g + a) xs) ≡ take a (drop g xs)
drop_taken g a xs = drop-take g a xs
