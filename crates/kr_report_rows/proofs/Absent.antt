-- Slots and objects, also where they aren't there.
use Rattle.std.proofs.Common.{◌≡◌, ℕ, ◌<◌, ◌≤◌, ◌⊎◌, inl, inr, None, [], length, get_or, sym, ap, ◌∙◌}
use Rattle.std.proofs.lemmas.List.{get_or_past}
use Rattle.std.proofs.lemmas.Bool.{cases_lt}
use Rattle.kr_mean.specs.Places.{This}
use Rattle.kr_value.specs.declared.object.Class.TheVariants.{Object}
use Rattle.kr_mean.specs.Problem.{ClassDomain, Problem, DomainObject, Slot, all_objects, domain_at, no_objects, no_slot, slots, slot_at}
use Rattle.kr_laws_pruning.proofs.Numbering.{object, object_at_number, number_of_object}
use Rattle.kr_report.specs.Texts.{no_domain_object}
use Rattle.kr_space_layout.specs.Numbers.{HasNumber}

pub no_owner : (problem : Problem) (s : ℕ) → length (slots problem) ≤ s → None ≡ (slot_at problem s).owner
no_owner problem s h = ap (λ (x : Slot). x.owner) (sym (get_or_past (slots problem) s no_slot h))

pub no_place : (problem : Problem) (s : ℕ) → length (slots problem) ≤ s → This ≡ (slot_at problem s).place
no_place problem s h = ap (λ (x : Slot). x.place) (sym (get_or_past (slots problem) s no_slot h))

pub no_name : (problem : Problem) (d : ℕ) → length problem.domains ≤ d → [] ≡ (domain_at problem d).name
no_name problem d h = ap (λ (x : ClassDomain). x.name) (sym (get_or_past problem.domains d no_objects h))

pub no_class : (problem : Problem) (d : ℕ) → length problem.domains ≤ d → Object 0 ≡ (domain_at problem d).class
no_class problem d h = ap (λ (x : ClassDomain). x.class) (sym (get_or_past problem.domains d no_objects h))

pub found_is : (problem : Problem) (number : ℕ) (o : DomainObject) → HasNumber problem number o → o ≡ get_or (all_objects problem) number no_domain_object
found_is problem number o h = sym (object_at_number problem o.domain o.number h.domain h.inside).1 ∙ ap (λ (n : ℕ). get_or (all_objects problem) n no_domain_object) h.is

pub none_is : (problem : Problem) (number : ℕ) → ((o : DomainObject) → HasNumber problem number o → ⊥) → no_domain_object ≡ get_or (all_objects problem) number no_domain_object
none_is problem number none = go (cases_lt number (length (all_objects problem)))
  where
    go : (number < length (all_objects problem)) ⊎ (length (all_objects problem) ≤ number) → no_domain_object ≡ get_or (all_objects problem) number no_domain_object
    go (inl h) = let d = number_of_object problem number h in absurd (none (object d.domain d.number) (record { domain = d.domain_in; inside = d.number_in; is = sym d.is }))
    go (inr h) = sym (get_or_past (all_objects problem) number no_domain_object h)
