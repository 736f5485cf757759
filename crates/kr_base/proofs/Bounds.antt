-- The order of bounds is total.
use Rattle.std.proofs.Common.{◌≡◌, ℕ, List, true, false, refl, sym, ap, ◌∙◌}
use Rattle.kr_base.specs.declared.span.Bound.{Bound}
use Rattle.kr_base.specs.declared.span.Bound.TheVariants.{At, End}
use Rattle.kr_base.specs.Cuts.{Before}
use Rattle.kr_base.specs.Bounds.{less}
use Rattle.kr_base.proofs.Orders.{test_irreflexive, test_transitive, test_connected, test_from_before}

pub less_from_before : (j k : List ℕ) → Before j k → less (At j) (At k) ≡ true
unfolding less
less_from_before j k h = test_from_before j k h

pub end_is_last : (b : Bound) → less End b ≡ false
unfolding less
end_is_last b = refl

pub irreflexive : (a : Bound) → less a a ≡ false
unfolding less
irreflexive (At a) = test_irreflexive a
irreflexive End = refl

pub transitive : (a b c : Bound) → less a b ≡ true → less b c ≡ true → less a c ≡ true
unfolding less
transitive (At a) (At b) (At c) p q = test_transitive a b c p q
transitive (At a) (At b) End p q = refl
transitive (At a) End c p q = absurd (cc (q))
transitive End b c p q = absurd (cc (p))

pub asymmetric : (a b : Bound) → less a b ≡ true → less b a ≡ false
asymmetric a b p =
    elim (less b a) as (λ t. less b a ≡ t → t ≡ false) [ true ↦ λ q. absurd (cc (sym (transitive a b a p q) ∙ irreflexive a)) | false ↦ λ q. refl ] refl

pub connected : (a b : Bound) → less a b ≡ false → less b a ≡ false → a ≡ b
unfolding less
connected (At a) (At b) p q = ap At (test_connected a b p q)
connected (At a) End p q = absurd (cc (p))
connected End (At b) p q = absurd (cc (q))
connected End End p q = refl

pub not_above : (a b c : Bound) → less b a ≡ false → less c b ≡ false → less c a ≡ false
not_above a b c p q =
    elim (less c a) as (λ t. less c a ≡ t → t ≡ false) [
      | true ↦ λ ca. elim (less a b) as (λ t. less a b ≡ t → true ≡ false) [
        | true ↦ λ ab. sym (transitive c a b ca ab) ∙ q
        | false ↦ λ ab. sym ca ∙ (ap (less c) (connected a b ab p) ∙ q)
      ] refl
      | false ↦ λ ca. refl
    ] refl

pub not_above_less : (a b c : Bound) → less b a ≡ false → less b c ≡ true → less a c ≡ true
not_above_less a b c p q =
    elim (less a c) as (λ t. less a c ≡ t → t ≡ true) [
      | true ↦ λ ac. refl
      | false ↦ λ ac. sym (not_above c a b ac p) ∙ q
    ] refl
