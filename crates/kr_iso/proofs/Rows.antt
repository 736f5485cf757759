-- Rows of values, of which as many are allowed as an object on the path lets stand.
use Rattle.std.proofs.Common.{◌≡◌, ℕ, ◌+◌, ◌-◌, ◌<◌, ◌≤◌, List, Option, Some, None, refl, sym, ap, ◌∙◌, subst, arith}
use Rattle.kr_mean.specs.Choices.{IsAllowed, MayStand}
use Rattle.kr_mean.specs.Problem.{DomainObject}
use Rattle.kr_mean.specs.Space.{Space}
use Rattle.kr_iso.specs.Rows.{IsRow, further, further_on}

-- one value follows itself
pub alone : (S : Space) (s i : ℕ) → i < S.size s → IsRow S s i 1
alone S s i h = record { within = omega (arith, h); each = λ n l. one n (omega (arith, l)) (S.object_at s i) refl }
  where
    one : (n : ℕ) → n ≡ 0 → (x : Option DomainObject) → S.object_at s i ≡ x → S.object_at s (i + n) ≡ further_on (S.object_at s i) n
    one n z None e =
        let at : i + n ≡ i = omega (arith, z) in
        ap (S.object_at s) at ∙ (e ∙ sym (ap (λ (y : Option DomainObject). further_on y n) e))
    one n z (Some o) e =
        let at : i + n ≡ i = omega (arith, z) in
        let same : o.number ≡ o.number + n = omega (arith, z) in
        ap (S.object_at s) at ∙ (e ∙ (ap (λ (k : ℕ). Some (record { domain = o.domain; number = k })) same ∙ sym (ap (λ (y : Option DomainObject). further_on y n) e)))

module _ (S : Space) (path : List (ℕ × ℕ)) (s i count : ℕ) (row : IsRow S s i count) where
  -- one of the row
  in_row : (x : Option DomainObject) → S.object_at s i ≡ x → (j : ℕ) → i ≤ j → j < i + count → S.object_at s j ≡ further_on x (j - i)
  in_row x e j from to =
      let at : i + (j - i) ≡ j = omega (arith, from) in
      ap (S.object_at s) (sym at) ∙ (row.each (j - i) (omega (arith, from, to)) ∙ ap (λ (y : Option DomainObject). further_on y (j - i)) e)

  pub plain_row : S.object_at s i ≡ None → (j : ℕ) → i ≤ j → j < i + count → IsAllowed S path s j
  plain_row e j from to = subst (MayStand S path) (sym (in_row None e j from to)) tt

  pub object_row : (o : DomainObject) → S.object_at s i ≡ Some o → (lets : ℕ) → lets ≤ count → ((n : ℕ) → n < lets → MayStand S path (Some (further o n))) → (j : ℕ) → i ≤ j → j < i + lets → IsAllowed S path s j
  object_row o e lets le may j from to = subst (MayStand S path) (sym (in_row (Some o) e j from (omega (arith, to, le)))) (may (j - i) (omega (arith, from, to)))
