-- Lists that grow by an optional item at a time.
use Rattle.std.proofs.Common.{◌≡◌, refl, sym, ap, ◌∙◌, subst, ℕ, ◌+◌, ◌<◌, ◌≤◌, List, [], ◌∷◌, ◌++◌, length, map, take, get_or, All, append_assoc, append-nil}
use Rattle.std.specs.Prelude.{Option, Some, None, flat_map, IfSome, option_map, option_to_list}
use Rattle.std.proofs.lemmas.List.{map-append, take_more, take_all}
use Rattle.std.proofs.lemmas.Grind.{flat_map-append}
use Rattle.std.proofs.lemmas.List.Folds.{flat_map-map}
use Rattle.std.proofs.lemmas.List.Elements.{All-append, All-nil, All-push}

-- one step of a loop that appends `f` of each item
pub flat_step : {A B : Type 0} (f : A → List B) (before all more : List B) (xs : List A) (i : ℕ) (d : A) → i < length xs → all ≡ before ++ flat_map f (take i xs) → more ≡ f (get_or xs i d) → all ++ more ≡ before ++ flat_map f (take (i + 1) xs)
flat_step f before all more xs i d l a m =
    ap (λ ys. ys ++ more) a ∙ append_assoc before (flat_map f (take i xs)) more
    ∙ ap (λ ys. before ++ (flat_map f (take i xs) ++ ys)) (m ∙ sym (append-nil (f (get_or xs i d))))
    ∙ ap (λ ys. before ++ ys) (sym (flat_map-append f (take i xs) (get_or xs i d ∷ [])) ∙ ap (flat_map f) (sym (take_more xs i d l)))

-- the end of that loop, with the items viewed by `v`
pub flat_all : {A B C : Type 0} (f : B → List C) (v : A → B) (xs : List A) (n : ℕ) (ts : List B) → length xs ≤ n → map v xs ≡ ts → flat_map (λ x. f (v x)) (take n xs) ≡ flat_map f ts
flat_all f v xs n ts l e = ap (flat_map (λ x. f (v x))) (take_all n xs l) ∙ sym (flat_map-map f v xs) ∙ ap (flat_map f) e

pub found_map : {A B : Type 0} (f : A → B) (found : Option A) → map f (option_to_list found) ≡ option_to_list (option_map f found)
found_map f None = refl
found_map f (Some x) = refl

-- one step of a loop that pushes an optional item
pub found_shown : {A B C : Type 0} (f : A → B) (g : C → List B) (before : List B) (kept new : List A) (found : Option A) (xs : List C) (i : ℕ) (d : C) → i < length xs
    → new ≡ kept ++ option_to_list found → map f kept ≡ before ++ flat_map g (take i xs) → option_to_list (option_map f found) ≡ g (get_or xs i d) → map f new ≡ before ++ flat_map g (take (i + 1) xs)
found_shown f g before kept new found xs i d l n k e =
    ap (map f) n ∙ map-append f kept (option_to_list found)
    ∙ flat_step g before (map f kept) (map f (option_to_list found)) xs i d l k (found_map f found ∙ e)

one_stands : {A : Type 0} (P : A → Type 0) (found : Option A) → IfSome found P → All P (option_to_list found)
one_stands P None h = All-nil P
one_stands P (Some x) h = All-push P [] x (All-nil P) h

pub found_stands : {A : Type 0} (P : A → Type 0) (kept new : List A) (found : Option A) → new ≡ kept ++ option_to_list found → All P kept → IfSome found P → All P new
found_stands P kept new found n k h = subst (λ (xs : List _). All P xs) (sym n) (All-append P kept (option_to_list found) k (one_stands P found h))
