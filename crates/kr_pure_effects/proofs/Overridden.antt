-- The methods of one class more.
use Rattle.std.proofs.Common.{◌≡◌, refl, sym, ap, ◌∙◌, ℕ, zero, suc, ◌+◌, List, [], ◌∷◌, ◌++◌, map, append-nil, arith}
use Rattle.std.specs.Prelude.{Option, Some, None, flat_map, option_map, option_to_list}
use Rattle.std.specs.List.{range_with_len}
use Rattle.std.proofs.lemmas.Grind.{flat_map-append}
use Rattle.std.proofs.lemmas.List.{map-append}

range_more : (a n : ℕ) → range_with_len a (n + 1) ≡ range_with_len a n ++ (a + n) ∷ []
range_more a zero = let at : a ≡ a + 0 = omega arith in ap (λ (k : ℕ). k ∷ []) at
range_more a (suc n) =
    let next : suc n + 1 ≡ suc (n + 1) = omega arith in
    let at : a + 1 + n ≡ a + suc n = omega arith in
    ap (range_with_len a) next ∙ ap (λ (ks : List ℕ). a ∷ ks) (range_more (a + 1) n) ∙ ap (λ (k : ℕ). a ∷ (range_with_len (a + 1) n ++ k ∷ [])) at

shown_found : {A B : Type 0} (v : A → B) (found : Option A) → map v (option_to_list found) ≡ option_to_list (option_map v found)
shown_found v None = refl
shown_found v (Some x) = refl

pub class_more : {A B : Type 0} (v : A → B) (f : ℕ → Option B) (kept new : List A) (found : Option A) (c : ℕ) → new ≡ kept ++ option_to_list found → map v kept ≡ flat_map (λ c. option_to_list (f c)) (range_with_len 0 c) → option_map v found ≡ f c
    → map v new ≡ flat_map (λ c. option_to_list (f c)) (range_with_len 0 (c + 1))
class_more v f kept new found c e k o =
    let at : 0 + c ≡ c = omega arith in
    ap (map v) e ∙ map-append v kept (option_to_list found)
    ∙ ap (λ ys. ys ++ map v (option_to_list found)) k
    ∙ ap (λ ys. flat_map (λ c. option_to_list (f c)) (range_with_len 0 c) ++ ys) (shown_found v found ∙ ap option_to_list o ∙ sym (append-nil (option_to_list (f c))))
    ∙ sym (flat_map-append (λ c. option_to_list (f c)) (range_with_len 0 c) (c ∷ []))
    ∙ ap (λ (k : ℕ). flat_map (λ c. option_to_list (f c)) (range_with_len 0 c ++ k ∷ [])) (sym at)
    ∙ ap (flat_map (λ c. option_to_list (f c))) (sym (range_more 0 c))
