-- What spans cover.
use Rattle.std.proofs.Common.{◌≡◌, ℕ, ◌+◌, List, [], ◌∷◌, ◌++◌, Bool, true, false, ◌&&◌, not, refl, arith}
use Rattle.kr_base.specs.declared.span.Bound.{Bound}
use Rattle.kr_base.specs.declared.span.Bound.TheVariants.{At}
use Rattle.kr_base.specs.Bounds.{less}
use Rattle.kr_base.specs.Entries.{is_within}
use Rattle.kr_base.proofs.Bounds.{not_above, not_above_less, asymmetric}
use Rattle.kr_survey.specs.Spans.{one, how_many}

-- how two bounds compare
pub data Stand (a b : Bound) : Type 0 where
  below : less a b ≡ true → less b a ≡ false → Stand a b
  same : less a b ≡ false → less b a ≡ false → Stand a b
  above : less a b ≡ false → less b a ≡ true → Stand a b

pub stand : (a b : Bound) → Stand a b
stand a b =
    elim (less a b) as (λ t. less a b ≡ t → Stand a b) [
      | true ↦ λ p. below p (asymmetric a b p)
      | false ↦ λ p. elim (less b a) as (λ t. less b a ≡ t → Stand a b) [ true ↦ λ q. above p q | false ↦ λ q. same p q ] refl
    ] refl

zero_first : (n : ℕ) → 0 + n ≡ n
zero_first n = omega arith

zero_last : (n : ℕ) → n + 0 ≡ n
zero_last n = omega arith

-- a key is in one of two spans that adjoin exactly where it is in the whole
pub two_parts : (a b c : Bound) (key : List ℕ) → less b a ≡ false → less c b ≡ false → one (is_within a b key) + one (is_within b c key) ≡ one (is_within a c key)
two_parts a b c key p q = go (stand b (At key))
  where
    go : Stand b (At key) → one (is_within a b key) + one (is_within b c key) ≡ one (is_within a c key)
    go (below r t) = rw (r, not_above_less a b (At key) p r) (zero_first (one (not (less c (At key)))))
    go (same r t) = rw (r, not_above (At key) b c r q) (zero_last (one (less a (At key) && true)))
    go (above r t) = rw (r, not_above (At key) b c r q) (zero_last (one (less a (At key) && true)))

pub counted_append : {A : Type 0} (p : A → Bool) (xs ys : List A) → how_many p (xs ++ ys) ≡ how_many p xs + how_many p ys
counted_append p [] ys = omega arith
counted_append p (x ∷ xs) ys = omega (arith, counted_append p xs ys)
