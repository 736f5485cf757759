-- Two vectors of as many slots agree past their ends.
use Rattle.std.proofs.Common.{◌≡◌, inl, inr, ◌≤◌, ℕ, zero, suc, List, [], ◌∷◌, get_or, length, refl, sym, arith, ◌∙◌}
use Rattle.kr_build.specs.Renewed.{IsSameBut}

none_there : (us : List ℕ) (s : ℕ) → length us ≤ s → get_or us s 0 ≡ 0
none_there [] s h = refl
none_there (u ∷ us) zero h = absurd (omega (arith, h))
none_there (u ∷ us) (suc s) h = none_there us s (omega (arith, h))

none_beyond : (us vs : List ℕ) (n s : ℕ) → length us ≡ n → length vs ≡ n → n ≤ s → get_or us s 0 ≡ get_or vs s 0
none_beyond us vs n s a b h = none_there us s (omega (arith, a, h)) ∙ sym (none_there vs s (omega (arith, b, h)))

-- so they are the same but at their slots
pub same_but_all : (us vs : List ℕ) (n : ℕ) → length us ≡ n → length vs ≡ n → IsSameBut us vs 0 n
same_but_all us vs n a b s (inl h) = absurd (omega (arith, h))
same_but_all us vs n a b s (inr h) = none_beyond us vs n s a b h
