-- The slots of places, of places that no candidate has none.
use Rattle.std.proofs.Common.{◌≡◌, ℕ, zero, suc, ◌+◌, ◌<◌, ◌≤◌, true, [], ◌∷◌, length, refl, sym, ap, ◌∙◌, arith}
use Rattle.std.specs.Prelude.{◌==◌}
use Rattle.std.proofs.lemmas.Bool.{eqb-true, and_parts, false_from_ne_true}
use Rattle.kr_value.specs.declared.object.Class.{Class}
use Rattle.kr_value.specs.declared.object.Class.TheVariants.{Object, Array, Set, List as ListClass}
use Rattle.kr_value.specs.declared.object.Spot.{Spot}
use Rattle.kr_mean.specs.Places.{SlotPlace, Parameter, At}
use Rattle.kr_mean.specs.Problem.{Problem, DomainObject, Slot, heap_number, domain_at, slots, slot_at}
use Rattle.kr_mean.specs.Runs.{slots_for, is_same_place, is_same_spot}
use Rattle.kr_mean.specs.WellFormed.{IsWellFormed}
use Rattle.kr_space_layout.specs.Layouts.{first_slot}
use Rattle.kr_laws_pruning.proofs.Numbering as numbering
use Rattle.kr_laws_pruning.proofs.Numbering.{object, width_at, parameters, parameter_slot, object_slot, SlotCase, is_this, is_parameter, is_spot, slot_case}
use Rattle.kr_laws_pruning.proofs.Places.{kind, class_at, spot_slots, spot_none, filter_none}
use Rattle.kr_build.proofs.Rows.{first_same}
use Rattle.kr_judge.specs.Columns.{spot_at, HasNone}
use Rattle.kr_space_layout.specs.Numbers.{HasNumber}

-- ---- places that no candidate has

module _ (problem : Problem) where
  nowhere : (place : SlotPlace) → ((s : ℕ) → s < length (slots problem) → is_same_place (slot_at problem s).place place ≡ true → ⊥) → slots_for problem place ≡ []
  nowhere place never = filter_none (λ s. is_same_place (slot_at problem s).place place) 0 (length (slots problem)) (λ s l h. false_from_ne_true (is_same_place (slot_at problem s).place place) (never s (omega (arith, h))))

  pub no_parameter : (i : ℕ) → parameters problem ≤ i → slots_for problem (Parameter i) ≡ []
  no_parameter i past = nowhere (Parameter i) (λ s h t. go s t (slot_case problem s h))
    where
      place : SlotPlace
      place = Parameter i

      go : (s : ℕ) → is_same_place (slot_at problem s).place place ≡ true → SlotCase problem s → ⊥
      go s t (is_this z) = absurd (cc (t, ap (λ (x : ℕ). is_same_place (slot_at problem x).place place) z))
      go s t (is_parameter j l z) =
          let u : (j == i) ≡ true = sym (ap (λ (x : ℕ). is_same_place (slot_at problem x).place place) z ∙ ap (λ (x : Slot). is_same_place x.place place) (parameter_slot problem j l).1) ∙ t in
          absurd (omega (arith, eqb-true j i u, l, past))
      go s t (is_spot d k j a b c z) = absurd (cc (t, ap (λ (x : ℕ). is_same_place (slot_at problem x).place place) z, ap (λ (x : Slot). is_same_place x.place place) (object_slot problem d k j a b c).1))

  pub no_object : (number : ℕ) (spot : Spot) → ((o : DomainObject) → HasNumber problem number o → ⊥) → slots_for problem (At number spot) ≡ []
  no_object number spot none = nowhere place (λ s h t. go s t (slot_case problem s h))
    where
      place : SlotPlace
      place = At number spot

      go : (s : ℕ) → is_same_place (slot_at problem s).place place ≡ true → SlotCase problem s → ⊥
      go s t (is_this z) = absurd (cc (t, ap (λ (x : ℕ). is_same_place (slot_at problem x).place place) z))
      go s t (is_parameter j l z) = absurd (cc (t, ap (λ (x : ℕ). is_same_place (slot_at problem x).place place) z, ap (λ (x : Slot). is_same_place x.place place) (parameter_slot problem j l).1))
      go s t (is_spot d k j a b c z) =
          let p : (slot_at problem s).place ≡ At (heap_number problem (object d k)) (numbering.spotted_at problem d j).spot = ap (λ (x : ℕ). (slot_at problem x).place) z ∙ ap (λ (x : Slot). x.place) (object_slot problem d k j a b c).1 in
          let u : is_same_place (At (heap_number problem (object d k)) (numbering.spotted_at problem d j).spot) place ≡ true = sym (ap (λ (x : SlotPlace). is_same_place x place) p) ∙ t in
          let r = and_parts (heap_number problem (object d k) == number) (is_same_spot (numbering.spotted_at problem d j).spot spot) u in
          none (object d k) (record { domain = a; inside = b; is = eqb-true (heap_number problem (object d k)) number r.0 })

-- ---- the slots of spots

kind_same : (c : Class) (j : ℕ) → spot_at c j ≡ kind c j
kind_same (Object c) j = refl
kind_same (Array t) zero = refl
kind_same (Array t) (suc j) = refl
kind_same Set j = refl
kind_same ListClass j = refl

module _ (problem : Problem) (well : IsWellFormed problem) (o : DomainObject) (a : o.domain < length problem.domains) (b : o.number < (domain_at problem o.domain).count) where
  pub there : (j : ℕ) (spot : Spot) → j < width_at problem o.domain → spot_at (domain_at problem o.domain).class j ≡ spot → (first_slot problem o + j) ∷ [] ≡ slots_for problem (At (heap_number problem o) spot)
  there j spot h e =
      let here = spot_slots problem well o.domain o.number j a b h in
      let first : first_slot problem o ≡ numbering.first_slot problem o.domain o.number = first_same problem o.domain o.number in
      ap (λ (n : ℕ). (n + j) ∷ []) first ∙ (sym here ∙ ap (λ (s : Spot). slots_for problem (At (heap_number problem o) s)) (sym (kind_same (class_at problem well o.domain) j) ∙ e))

  pub not_there : (spot : Spot) → HasNone (domain_at problem o.domain).class (width_at problem o.domain) spot → [] ≡ slots_for problem (At (heap_number problem o) spot)
  not_there spot none = sym (spot_none problem well o.domain o.number spot a b (λ j h e. none j h (kind_same (class_at problem well o.domain) j ∙ e)))
