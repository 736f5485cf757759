-- The array types that only a document names come after those of the files.
use Rattle.std.proofs.Common.{◌≡◌, Bool, true, false, List, [], ◌∷◌, ◌++◌, refl, ap, ◌∙◌}
use Rattle.std.specs.Prelude.{if◌then◌else◌}
use Rattle.kr_classes_table.specs.Types.{JavaType}
use Rattle.kr_classes_table.specs.Arrays.{is_listed, once}

-- the types seen so far, after taking some more
abbrev seen_after : List JavaType → List JavaType → List JavaType
seen_after seen [] = seen
seen_after seen (t ∷ ts) = if is_listed t seen then seen_after seen ts else seen_after (t ∷ seen) ts

once_append : (seen xs ys : List JavaType) → once seen (xs ++ ys) ≡ once seen xs ++ once (seen_after seen xs) ys
once_append seen [] ys = refl
once_append seen (x ∷ xs) ys = go (is_listed x seen) (once_append seen xs ys) (once_append (x ∷ seen) xs ys)
  where
    go : (b : Bool) → once seen (xs ++ ys) ≡ once seen xs ++ once (seen_after seen xs) ys → once (x ∷ seen) (xs ++ ys) ≡ once (x ∷ seen) xs ++ once (seen_after (x ∷ seen) xs) ys
        → (if b then once seen (xs ++ ys) else x ∷ once (x ∷ seen) (xs ++ ys)) ≡ (if b then once seen xs else x ∷ once (x ∷ seen) xs) ++ once (if b then seen_after seen xs else seen_after (x ∷ seen) xs) ys
    go true e f = e
    go false e f = ap (λ (ts : List JavaType). x ∷ ts) f

-- a list without repeats is left as it is
once_twice : (seen xs : List JavaType) → once seen (once seen xs) ≡ once seen xs
once_twice seen [] = refl
once_twice seen (x ∷ xs) = go (is_listed x seen) refl (once_twice seen xs) (once_twice (x ∷ seen) xs)
  where
    go : (b : Bool) → is_listed x seen ≡ b → once seen (once seen xs) ≡ once seen xs → once (x ∷ seen) (once (x ∷ seen) xs) ≡ once (x ∷ seen) xs
        → once seen (if b then once seen xs else x ∷ once (x ∷ seen) xs) ≡ (if b then once seen xs else x ∷ once (x ∷ seen) xs)
    go true q e f = e
    go false q e f = ap (λ (b : Bool). if b then once seen (once (x ∷ seen) xs) else x ∷ once (x ∷ seen) (once (x ∷ seen) xs)) q ∙ ap (λ (ts : List JavaType). x ∷ ts) f

-- the types of a program, followed by more
pub once_more : (xs ys : List JavaType) → (more : List JavaType) × (once [] (once [] xs ++ ys) ≡ once [] xs ++ more)
once_more xs ys = (once (seen_after [] (once [] xs)) ys, once_append [] (once [] xs) ys ∙ ap (λ (ts : List JavaType). ts ++ once (seen_after [] (once [] xs)) ys) (once_twice [] xs))
