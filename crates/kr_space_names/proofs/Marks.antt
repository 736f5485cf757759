-- Marks at the numbers that are there.
use Rattle.std.proofs.Common.{◌≡◌, ℕ, Bool, true, false, List, [], ◌∷◌, ◌++◌, refl, sym, ap, ◌∙◌}
use Rattle.std.specs.Prelude.{◌||◌, ◌==◌, if◌then◌else◌}
use Rattle.kr_space_layout.specs.Marks.{IsMarked}
use Rattle.kr_space_names.specs.Numbers.{AreMarked, has_number}

has_more : (ns : List ℕ) (n m : ℕ) → has_number (ns ++ n ∷ []) m ≡ (if m == n then true else has_number ns m)
has_more [] n m = go (m == n)
  where
    go : (b : Bool) → (b || false) ≡ (if b then true else false)
    go true = refl
    go false = refl
has_more (u ∷ us) n m = ap (λ (b : Bool). (m == u) || b) (has_more us n m) ∙ go (m == u) (m == n)
  where
    go : (a b : Bool) → (a || (if b then true else has_number us m)) ≡ (if b then true else (a || has_number us m))
    go true true = refl
    go true false = refl
    go false true = refl
    go false false = refl

pub marked_more : (old new : List Bool) (ns : List ℕ) (n : ℕ) → AreMarked old ns → IsMarked old n new → AreMarked new (ns ++ n ∷ [])
marked_more old new ns n a h = λ m. h m ∙ (ap (λ (b : Bool). if m == n then true else b) (a m) ∙ sym (has_more ns n m))
