-- Objects by their numbers.
use Rattle.std.proofs.Common.{◌≡◌, ℕ, ◌<◌, ◌≤◌, ◌⊎◌, inl, inr, Bool, true, false, ◌==◌, length, get_or, refl, sym, ap, ◌∙◌, subst}
use Rattle.std.specs.Prelude.{not}
use Rattle.std.proofs.lemmas.Bool.{cases_lt, eq-eqb, eqb-true, cases_Bool}
use Rattle.std.proofs.lemmas.List.{get_or_past}
use Rattle.kr_laws_pruning.proofs.Numbering.{object, object_at_number, number_of_object}
use Rattle.kr_laws_pruning.proofs.Places.{same_object, same_objects}
use Rattle.kr_mean.specs.Heaps.{is_same_object}
use Rattle.kr_mean.specs.Problem.{Problem, DomainObject, all_objects, heap_number}
use Rattle.kr_report.specs.Texts.{no_domain_object}

module _ (problem : Problem) where
  -- the object of a number
  abbrev named : ℕ → DomainObject
  named n = get_or (all_objects problem) n no_domain_object

  number_is : (n : ℕ) → n < length (all_objects problem) → heap_number problem (named n) ≡ n
  number_is n h =
      let d = number_of_object problem n h in
      let is : n ≡ heap_number problem (object d.domain d.number) = d.is in
      let found : named n ≡ object d.domain d.number = ap named is ∙ (object_at_number problem d.domain d.number d.domain_in d.number_in).1 in
      ap (heap_number problem) found ∙ sym is

  in_range : (n : ℕ) (o : DomainObject) → named n ≡ o → is_same_object o no_domain_object ≡ false → n < length (all_objects problem)
  in_range n o e other = elim (cases_lt n (length (all_objects problem))) [
    | inl low ↦ low
    | inr high ↦
        let none : o ≡ no_domain_object = sym e ∙ get_or_past (all_objects problem) n no_domain_object high in
        let same : is_same_object o no_domain_object ≡ true = ap (λ (x : DomainObject). is_same_object x no_domain_object) none ∙ same_object no_domain_object in
        absurd (cc (same, other))
  ]

  -- of an object but the first one there is one number
  one_number : (m n : ℕ) (o : DomainObject) → o ≡ named n → is_same_object o no_domain_object ≡ false → named m ≡ o → m ≡ n
  one_number m n o e other same =
      sym (number_is m (in_range m o same other)) ∙ (ap (heap_number problem) (same ∙ e) ∙ number_is n (in_range n o (sym e) other))

  by_same : (m n : ℕ) (o : DomainObject) (same : Bool) → o ≡ named n → is_same_object o no_domain_object ≡ false → (m == n) ≡ same → not same ≡ not (is_same_object (named m) o)
  by_same m n o true e other is =
      let named_same : named m ≡ o = ap named (eqb-true m n is) ∙ sym e in
      sym (ap not (ap (λ (x : DomainObject). is_same_object x o) named_same ∙ same_object o))
  by_same m n o false e other is = elim (cases_Bool (is_same_object (named m) o)) [
    | inl same ↦ let one = eq-eqb m n (one_number m n o e other (same_objects (named m) o same)) in absurd (cc (is, one))
    | inr apart ↦ sym (ap not apart)
  ]

  pub apart_is : (m n : ℕ) (o : DomainObject) → o ≡ named n → is_same_object o no_domain_object ≡ false → not (m == n) ≡ not (is_same_object (named m) o)
  apart_is m n o e other = by_same m n o (m == n) e other refl
