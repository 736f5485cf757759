-- Lists of types that are equal.
use Rattle.std.proofs.Common.{◌≡◌, refl, sym, ap, ◌∙◌, ℕ, suc, Bool, true, false, ◌&&◌, List, [], ◌∷◌, ◌++◌, length, map}
use Rattle.std.specs.Prelude.{flat_map}
use Rattle.std.proofs.lemmas.List.{map-append}
use Rattle.kr_classes_table.specs.Types.{JavaType, is_same}
use Rattle.kr_classes_table.specs.Table.{Parameter}
use Rattle.kr_classes_table.specs.Rules.{same_types}
use Rattle.kr_classes.specs.Overriding.{are_same}

pub map_flat : {A B C : Type 0} (f : B → C) (g : A → List B) (xs : List A) → flat_map (λ x. map f (g x)) xs ≡ map f (flat_map g xs)
map_flat f g [] = refl
map_flat f g (x ∷ xs) = ap (λ ys. map f (g x) ++ ys) (map_flat f g xs) ∙ sym (map-append f (g x) (flat_map g xs))

pub by_types : (ps qs : List Parameter) → are_same (map (λ p. p.type) ps) (map (λ p. p.type) qs) ≡ same_types ps qs
by_types [] [] = refl
by_types [] (q ∷ qs) = refl
by_types (p ∷ ps) [] = refl
by_types (p ∷ ps) (q ∷ qs) = ap (λ b. is_same p.type q.type && b) (by_types ps qs)

nothing_more : (b : Bool) → b && false ≡ false
nothing_more true = refl
nothing_more false = refl

pub other_length : (v : ℕ → JavaType) (xs ys : List ℕ) → (length xs ≡ length ys → ⊥) → are_same (map v xs) (map v ys) ≡ false
other_length v [] [] n = absurd (n refl)
other_length v [] (y ∷ ys) n = refl
other_length v (x ∷ xs) [] n = refl
other_length v (x ∷ xs) (y ∷ ys) n = ap (λ b. is_same (v x) (v y) && b) (other_length v xs ys (λ e. n (ap suc e))) ∙ nothing_more (is_same (v x) (v y))
