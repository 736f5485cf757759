-- Lists of a tree's nodes, walked item by item.
use Rattle.std.proofs.Common.{◌≡◌, refl, sym, ap, ◌∙◌, ℕ, ◌+◌, ◌<◌, List, [], ◌∷◌, ◌++◌, length, map, take, get_or, append-nil, zero-add}
use Rattle.std.specs.Prelude.{None}
use Rattle.std.proofs.lemmas.List.{map-append, take_more}
use Rattle.kr_ast.specs.Tree.{Tree}
use Rattle.kr_classes_table.specs.Table.{Heading, headings_from, heading_of, with_nested}
use Rattle.kr_classes_table.proofs.Headings.{headings_append}

pub headings_step : {A : Type 0} (v : A → Tree) (all more : List Heading) (k : ℕ) (xs : List A) (i : ℕ) (d : A) → i < length xs → all ≡ headings_from 0 (map v (take i xs)) → k ≡ length all → more ≡ with_nested k (heading_of None (v (get_or xs i d))) → all ++ more ≡ headings_from 0 (map v (take (i + 1) xs))
headings_step v all more k xs i d l a e m =
    let t = v (get_or xs i d) in
    let before = map v (take i xs) in
    let hs = headings_from 0 before in
    let n : k ≡ 0 + length hs = e ∙ ap length a ∙ sym (zero-add (length hs)) in
    ap (λ ys. all ++ ys) (m ∙ ap (λ j. with_nested j (heading_of None t)) n)
    ∙ ap (λ ys. ys ++ with_nested (0 + length hs) (heading_of None t)) a
    ∙ ap (λ ys. hs ++ ys) (sym (append-nil (with_nested (0 + length hs) (heading_of None t))))
    ∙ sym (headings_append 0 before (t ∷ []))
    ∙ ap (headings_from 0) (sym (map-append v (take i xs) (get_or xs i d ∷ [])) ∙ ap (map v) (sym (take_more xs i d l)))

pub map_map : {A B C : Type 0} (f : B → C) (g : A → B) (xs : List A) → map f (map g xs) ≡ map (λ x. f (g x)) xs
map_map f g [] = refl
map_map f g (x ∷ xs) = ap (λ ys. f (g x) ∷ ys) (map_map f g xs)
