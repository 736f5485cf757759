-- Where the slots of an object are.
use Rattle.std.proofs.Common.{◌≡◌, ℕ, ◌+◌, ◌-◌, ◌^◌, ◌<◌, ◌≤◌, ◌⊎◌, inl, inr, Bool, true, false, Option, Some, None, length, refl, sym, ap, ◌∙◌, subst, arith}
use Rattle.std.proofs.lemmas.Bool.{cases_lt, cases_Bool}
use Rattle.kr_build.proofs.Changed.{owner_in}
use Rattle.kr_build.proofs.Rows.{first_same}
use Rattle.kr_laws_pruning.proofs.Numbering as numbering
use Rattle.kr_laws_pruning.proofs.Numbering.{SlotCase, count_at, is_parameter, is_spot, is_this, object, object_slot, parameter_slot, slot_case, width_at}
use Rattle.kr_laws_pruning.proofs.Places.{same_object, same_objects}
use Rattle.kr_mean.specs.Heaps.{is_owner, is_same_object}
use Rattle.kr_mean.specs.Problem.{Problem, DomainObject, Slot, slot_at, slots}
use Rattle.kr_space_layout.specs.Layouts.{first_slot}
use Rattle.kr_report_rows.specs.Stretches.{IsStretch, IsWithin}
use Rattle.kr_report_rows.specs.declared.places.Stretch.{Stretch}
use Rattle.kr_report_rows.proofs.Absent.{no_owner}

-- an object's slot is from its first one on, and no further than its slots
record StandsIn (problem : Problem) (s : ℕ) (o : DomainObject) : Type 0 where
  pub after : numbering.first_slot problem o.domain o.number ≤ s
  pub within : s < numbering.first_slot problem o.domain o.number + width_at problem o.domain

stands_in : (problem : Problem) (s : ℕ) (o : DomainObject) → s < length (slots problem) → (slot_at problem s).owner ≡ Some o → StandsIn problem s o
stands_in problem s o h e = go (slot_case problem s h)
  where
    go : SlotCase problem s → StandsIn problem s o
    go (is_this z) = let q : (slot_at problem s).owner ≡ None = rw z refl in absurd (cc (q, e))
    go (is_parameter i l z) = let q : (slot_at problem s).owner ≡ None = rw (z, (parameter_slot problem i l).1) refl in absurd (cc (q, e))
    go (is_spot d k j a b c z) =
        let q : (slot_at problem s).owner ≡ Some (object d k) = ap (λ (x : ℕ). (slot_at problem x).owner) z ∙ ap (λ (x : Slot). x.owner) (object_slot problem d k j a b c).1 in
        let is : object d k ≡ o = cc (q, e) in
        subst (StandsIn problem s) is (record { after = omega (arith, z); within = omega (arith, z, c) })

module _ (problem : Problem) (o : DomainObject) where
  not_owner : (s : ℕ) → ((slot_at problem s).owner ≡ Some o → ⊥) → is_owner o (slot_at problem s).owner ≡ false
  not_owner s h = go (slot_at problem s).owner refl
    where
      go : (x : Option DomainObject) → (slot_at problem s).owner ≡ x → is_owner o x ≡ false
      go None e = refl
      go (Some p) e = elim (cases_Bool (is_same_object o p)) [
        | inl same ↦ absurd (h (e ∙ ap Some (sym (same_objects o p same))))
        | inr apart ↦ apart
      ]

  there : (s : ℕ) → (slot_at problem s).owner ≡ Some o → s < length (slots problem)
  there s e = elim (cases_lt s (length (slots problem))) [
    | inl low ↦ low
    | inr high ↦ let none = no_owner problem s high in absurd (cc (none, e))
  ]

  -- its own slots
  pub stands : (stretch : Stretch) → o.domain < length problem.domains → o.number < count_at problem o.domain → stretch.first ≡ first_slot problem o → stretch.count ≤ width_at problem o.domain → (width_at problem o.domain ≤ stretch.count) ⊎ (2 ^ 32 ≤ stretch.count) → IsStretch problem o stretch
  stands stretch d k first few all s true small h =
      let same = first_same problem o.domain o.number in
      let j = s - stretch.first in
      let at : numbering.first_slot problem o.domain o.number + j ≡ s = omega (arith, h.0, first, same) in
      let inside : j < width_at problem o.domain = omega (arith, h.0, h.1, few) in
      let owner : (slot_at problem s).owner ≡ Some o =
      ap (λ (n : ℕ). (slot_at problem n).owner) (sym at) ∙ ap (λ (x : Slot). x.owner) (object_slot problem o.domain o.number j d k inside).1 in
      ap (is_owner o) owner ∙ same_object o
  stands stretch d k first few all s false small h =
      not_owner s (λ e.
      let is = stands_in problem s o (there s e) e in
      let same = first_same problem o.domain o.number in
      let after : stretch.first ≤ s = omega (arith, is.after, first, same) in
      elim all [
        | inl wide ↦ h after (omega (arith, is.within, first, same, wide))
        | inr most ↦ h after (omega (arith, small, most))
      ])

  -- an object that isn't there has none
  pub nowhere : (stretch : Stretch) → (o.domain < length problem.domains → o.number < count_at problem o.domain → ⊥) → stretch.count ≡ 0 → IsStretch problem o stretch
  nowhere stretch absent count s true small h = absurd (omega (arith, h.0, h.1, count))
  nowhere stretch absent count s false small h = not_owner s (λ e. let is = owner_in problem s o (there s e) e in absent is.domain is.number)
