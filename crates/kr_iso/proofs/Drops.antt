-- A path, read one step at a time.
use Rattle.std.proofs.Common.{◌≡◌, ℕ, zero, suc, ◌+◌, ◌<◌, ◌∙◌, inl, inr, List, [], ◌∷◌, length, drop, get_or, refl, sym, arith, drop-cons, add-one, ap, Option, Some, None}
use Rattle.kr_mean.specs.Problem.{DomainObject}
use Rattle.kr_mean.specs.Space.{Space}
use Rattle.kr_mean.specs.Choices.{IsUsed}
use Rattle.kr_iso.specs.Choices.{PathIn}
use Rattle.kr_iso.specs.Unused.{IsNear, IsReached}

pub drop_number : (order : List ℕ) (i : ℕ) → i < length order → drop i order ≡ get_or order i 0 ∷ drop (i + 1) order
drop_number order i h = rw (add-one, drop-cons order i 0) refl

-- ---- a step of a path

pub in_at : (S : Space) (path : List (ℕ × ℕ)) (i : ℕ) → i < length path → PathIn S path → ((get_or path i (0, 0)).0 < S.slots) × ((get_or path i (0, 0)).1 < S.size (get_or path i (0, 0)).0)
in_at S [] i h p = absurd (omega arith)
in_at S (q ∷ path) zero h p = (p.0, p.1)
in_at S (q ∷ path) (suc i) h p = in_at S path i (omega arith) p.2

pub used_at : (S : Space) (path : List (ℕ × ℕ)) (i c k : ℕ) → i < length path → S.object_at (get_or path i (0, 0)).0 (get_or path i (0, 0)).1 ≡ Some (record { domain = c; number = k }) → IsUsed S path c k
used_at S [] i c k h e = absurd (omega arith)
used_at S (q ∷ path) zero c k h e = inl e
used_at S (q ∷ path) (suc i) c k h e = inr (used_at S path i c k (omega arith) e)

pub near_at : (S : Space) (path : List (ℕ × ℕ)) (i : ℕ) (o : DomainObject) (x : Option DomainObject) → i < length path → x ≡ S.object_at (get_or path i (0, 0)).0 (get_or path i (0, 0)).1 → IsNear x o → IsReached S path o
near_at S path i o None h e n = absurd n
near_at S path i o (Some other) h e n =
    let at : S.object_at (get_or path i (0, 0)).0 (get_or path i (0, 0)).1 ≡ Some (record { domain = o.domain; number = other.number }) = sym e ∙ ap (λ (d : ℕ). Some (record { domain = d; number = other.number })) n.0 in
    (other.number, n.1, used_at S path i o.domain other.number h at)
