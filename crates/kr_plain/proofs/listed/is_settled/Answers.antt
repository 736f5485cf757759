use Rattle.std.proofs.Common.{◌≡◌, ℕ, ◌+◌, ◌⊎◌, inl, inr, List, true, false, get_or, subst, sym, ◌∙◌, arith}
use Rattle.std.proofs.lemmas.Bool.{cases_eq}
use Rattle.kr_mean.specs.Readings.{Lacks}
use Rattle.kr_mean.specs.Runs.{contains_number}
use Rattle.kr_laws_pruning.proofs.Numbers.{has_number, lacks_number, has_not, no_lacks}
use Rattle.kr_plain.specs.Plain.{IsSettledUpto}
use Rattle.kr_plain.proofs.listed.is_settled.Goals as goal
use Rattle.kr_plain.proofs.listed.is_settled.Goals.{else-index-ne0-via-then-index-ne0+else-not-has_slot, else-index-ne0-via-else-index-ne0}

lacks : (xs : List ℕ) (s : ℕ) → contains_number xs s ≡ false → Lacks xs s
lacks xs s e = no_lacks xs s (λ h. let t = has_number xs s h in cc)

has : (xs : List ℕ) (s : ℕ) → contains_number xs s ≡ true → Lacks xs s → ⊥
has xs s e l = let t = lacks_number xs s (has_not xs s l) in cc

one_more : (xs v : List ℕ) (k : ℕ) → IsSettledUpto k xs v → (Lacks xs k → get_or v k 0 ≡ 0) → IsSettledUpto (k + 1) xs v
one_more xs v k before here s h l = go (cases_eq s k)
  where
    go : (s ≡ k) ⊎ (s ≡ k → ⊥) → get_or v s 0 ≡ 0
    go (inl e) = subst (λ (j : ℕ). get_or v j 0 ≡ 0) (sym e) (here (subst (λ (j : ℕ). Lacks xs j) e l))
    go (inr n) = before s (omega (arith, h, n)) l

pub returns-then-not-has_slot : goal.returns-then-not-has_slot
returns-then-not-has_slot g c =
    let v = g.C.Candidate.vector c.args.candidates.now in
    let none : contains_number c.last_order-order.result.now c.loop-slot.slot ≡ false = sym c.has_slot.ensures ∙ c.if-not-has_slot.true in
    let l = lacks c.last_order-order.result.now c.loop-slot.slot none in (
      λ t. absurd (cc (t)),
      λ a. let z = a c.loop-slot.slot (omega (arith, c.loop-slot-test.true, c.slots-slot-end.ensures)) (subst (λ (xs : List ℕ). Lacks xs c.loop-slot.slot) c.last_order-order.ensures l) in absurd (omega (arith, z, c.index.ensures, c.if-index-ne0.true)),
    )

pub loop-slot-preserved : goal.loop-slot-preserved
loop-slot-preserved g c = one_more c.last_order-order.result.now (g.C.Candidate.vector c.args.candidates.now) c.loop-slot.slot c.loop-slot.invariant (λ l. elim c.else-index-ne0.branch [
  | else-index-ne0-via-then-index-ne0+else-not-has_slot w ↦ absurd (has c.last_order-order.result.now c.loop-slot.slot (sym w.has_slot.ensures ∙ w.if-not-has_slot.false) l)
  | else-index-ne0-via-else-index-ne0 w ↦ sym c.index.ensures ∙ w.if-index-ne0.false
])
