-- The cuts for workers are inside the span.
use Rattle.std.proofs.Common.{◌≡◌, ℕ, zero, suc, ◌+◌, ◌-◌, ◌<◌, ◌≤◌, List, [], ◌∷◌, ◌++◌, true, false, refl, sym, ap, ◌∙◌, arith, inl, inr}
use Rattle.std.specs.Prelude.{if◌then◌else◌}
use Rattle.kr_base.specs.declared.span.Bound.{Bound}
use Rattle.kr_base.specs.declared.span.Bound.TheVariants.{At}
use Rattle.kr_base.specs.declared.span.Span.{Span}
use Rattle.kr_base.specs.Cuts.{Before}
use Rattle.kr_base.specs.Bounds.{less}
use Rattle.kr_base.proofs.Bounds.{less_from_before}
use Rattle.kr_core.specs.Openings.{AscendBetween, AreInside}
use Rattle.kr_core.specs.Cutting.{first_level, is_inside, cuts_from, cuts_for}
use Rattle.kr_core.proofs.Bools.{and-left, and-right}

level-before : (j k : ℕ) → j < k → Before (first_level j) (first_level k)
level-before j k h = inr (refl, inl h)

-- after a bound that the later ones are after
from-level : (span : Span) (a : Bound) (k n : ℕ) → ((m : ℕ) → k ≤ m → is_inside span (first_level m) ≡ true → less a (At (first_level m)) ≡ true) → AscendBetween a (cuts_from span k n) span.upto
from-level span a k zero h = tt
from-level span a k (suc n) h =
    elim (is_inside span (first_level k)) as (λ b. is_inside span (first_level k) ≡ b → AscendBetween a (if b then first_level k ∷ cuts_from span (k + 1) n else cuts_from span (k + 1) n) span.upto) [
      | true ↦ λ q. (
        h k (omega arith) q,
        and-right (less (At span.after) (At (first_level k))) (less (At (first_level k)) span.upto) q,
        from-level span (At (first_level k)) (k + 1) n (λ m le r. less_from_before (first_level k) (first_level m) (level-before k m (omega (arith, le)))),
      )
      | false ↦ λ q. from-level span a (k + 1) n (λ m le r. h m (omega (arith, le)) r)
    ] refl

pub cuts_inside : (span : Span) (workers : ℕ) → AreInside (cuts_for span workers) span
cuts_inside span workers =
    from-level span (At span.after) 1 (workers - 1) (λ m le q. and-left (less (At span.after) (At (first_level m))) (less (At (first_level m)) span.upto) q)

-- the cut of a number, where it is inside
abbrev one : Span → ℕ → List (List ℕ)
one span k = if is_inside span (first_level k) then first_level k ∷ [] else []

-- one more number
cuts_more : (span : Span) (k n : ℕ) → cuts_from span k (suc n) ≡ cuts_from span k n ++ one span (k + n)
cuts_more span k zero = let at : k ≡ k + 0 = omega arith in ap (λ (m : ℕ). one span m) at
cuts_more span k (suc n) =
    let at : k + 1 + n ≡ k + suc n = omega arith in
    let rest : cuts_from span (k + 1) (suc n) ≡ cuts_from span (k + 1) n ++ one span (k + suc n) = cuts_more span (k + 1) n ∙ ap (λ (m : ℕ). cuts_from span (k + 1) n ++ one span m) at in
    elim (is_inside span (first_level k)) as (λ b. (if b then first_level k ∷ cuts_from span (k + 1) (suc n) else cuts_from span (k + 1) (suc n))
    ≡ (if b then first_level k ∷ cuts_from span (k + 1) n else cuts_from span (k + 1) n) ++ one span (k + suc n)) [
      | true ↦ ap (λ (l : List (List ℕ)). first_level k ∷ l) rest
      | false ↦ rest
    ]

pub cuts_next : (span : Span) (number : ℕ) → 0 < number → cuts_for span (number + 1) ≡ cuts_for span number ++ (if is_inside span (first_level number) then first_level number ∷ [] else [])
cuts_next span zero h = absurd (omega (arith, h))
cuts_next span (suc n) h =
    let a : suc n + 1 - 1 ≡ suc n = omega arith in
    let b : suc n - 1 ≡ n = omega arith in
    let d : 1 + n ≡ suc n = omega arith in
    ap (λ (m : ℕ). cuts_from span 1 m) a ∙ (cuts_more span 1 n ∙ (ap (λ (m : ℕ). cuts_from span 1 n ++ one span m) d ∙ ap (λ (m : ℕ). cuts_from span 1 m ++ one span (suc n)) (sym b)))
