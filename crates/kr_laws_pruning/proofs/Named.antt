-- Other names for the objects, as numbers in the heap; what a renamed vector has at a slot.
use Rattle.std.proofs.Common.{◌≡◌, ℕ, ◌+◌, ◌-◌, ◌*◌, ◌<◌, ◌≤◌, ◌⊎◌, inl, inr, List, length, get_or, Option, Some, None, refl, sym, ap, ◌∙◌, arith, subst}
use Rattle.std.specs.Prelude.{nat_lt, if◌then◌else◌}
use Rattle.std.proofs.lemmas.Bool.{cases_lt, lt-ltb, le-ltb}
use Rattle.kr_mean.specs.Problem.{Problem, DomainObject, Choice, Domain, Slot, slots, slot_at, all_objects, heap_number, object_choice, choices_in}
use Rattle.kr_mean.specs.Space.{space_of, IsRenaming, no_choice, renamed_object}
use Rattle.kr_mean.specs.Blocks.{width_in, moved, on_slot, on_index}
use Rattle.kr_mean.specs.Heaps.{value_at, choice_at}
use Rattle.kr_mean.specs.WellFormed.{IsPlain, IsWellFormed}
use Rattle.kr_value.specs.declared.value.Value.{Value}
use Rattle.kr_value.specs.declared.value.Value.TheVariants.{Int, Bool as Truth, Null, Ref as Reference}
use Rattle.kr_laws_pruning.proofs.Numbering.{object, nobody, count_at, width_at, parameters, first_slot, parameter_slot, object_slot, SlotCase, is_this, is_parameter, is_spot, slot_case, object_at_number, number_of_object}
use Rattle.kr_laws_pruning.proofs.Spaces.{some_is, block_of, plain_choice, width_is}
use Rattle.kr_laws_pruning.proofs.Places.{one_object}
use Rattle.kr_laws_pruning.proofs.Goes.{renamed_value}

module _ (problem : Problem) (w : IsWellFormed problem) (name : ℕ → ℕ → ℕ) (n : IsRenaming (space_of problem) name) where
  -- ---- objects

  pub name_in : (d k : ℕ) → k < count_at problem d → name d k < count_at problem d
  unfolding space_of
  name_in d k h = n.within d k h

  pub name_apart : (d j k : ℕ) → j < count_at problem d → k < count_at problem d → name d j ≡ name d k → j ≡ k
  unfolding space_of
  name_apart d j k a b e = n.apart d j k a b e

  abbrev pub heap_name : ℕ → ℕ
  heap_name x = if nat_lt x (length (all_objects problem)) then heap_number problem (renamed_object name (get_or (all_objects problem) x nobody)) else x

  pub heap_name_at : (d k : ℕ) → d < length problem.domains → k < count_at problem d → heap_name (heap_number problem (object d k)) ≡ heap_number problem (object d (name d k))
  heap_name_at d k a b = let r = object_at_number problem d k a b in rw (lt-ltb (heap_number problem (object d k)) (length (all_objects problem)) r.0) (ap (λ (o : DomainObject). heap_number problem (renamed_object name o)) r.1)

  pub heap_name_fixes : (x : ℕ) → length (all_objects problem) ≤ x → heap_name x ≡ x
  heap_name_fixes x h = rw (le-ltb x (length (all_objects problem)) h) refl

  pub heap_name_within : (x : ℕ) → x < length (all_objects problem) → heap_name x < length (all_objects problem)
  heap_name_within x h =
      let r = number_of_object problem x h in
      let e : heap_name x ≡ heap_number problem (object r.domain (name r.domain r.number)) = ap heap_name r.is ∙ heap_name_at r.domain r.number r.domain_in r.number_in in
      subst (λ (y : ℕ). y < length (all_objects problem)) (sym e) (object_at_number problem r.domain (name r.domain r.number) r.domain_in (name_in r.domain r.number r.number_in)).0

  pub heap_name_apart : (x y : ℕ) → heap_name x ≡ heap_name y → x ≡ y
  heap_name_apart x y e = go (cases_lt x (length (all_objects problem))) (cases_lt y (length (all_objects problem)))
    where
      go : (x < length (all_objects problem)) ⊎ (length (all_objects problem) ≤ x) → (y < length (all_objects problem)) ⊎ (length (all_objects problem) ≤ y) → x ≡ y
      go (inr a) (inr b) = sym (heap_name_fixes x a) ∙ (e ∙ heap_name_fixes y b)
      go (inl a) (inr b) = absurd (omega (arith, heap_name_within x a, b, e, heap_name_fixes y b))
      go (inr a) (inl b) = absurd (omega (arith, heap_name_within y b, a, e, heap_name_fixes x a))
      go (inl a) (inl b) =
          let r = number_of_object problem x a in
          let t = number_of_object problem y b in
          let ex : heap_name x ≡ heap_number problem (object r.domain (name r.domain r.number)) = ap heap_name r.is ∙ heap_name_at r.domain r.number r.domain_in r.number_in in
          let ey : heap_name y ≡ heap_number problem (object t.domain (name t.domain t.number)) = ap heap_name t.is ∙ heap_name_at t.domain t.number t.domain_in t.number_in in
          let q : object r.domain (name r.domain r.number) ≡ object t.domain (name t.domain t.number) = one_object problem w r.domain (name r.domain r.number) t.domain (name t.domain t.number) r.domain_in (name_in r.domain r.number r.number_in) t.domain_in (name_in t.domain t.number t.number_in) (sym ex ∙ (e ∙ ey)) in
          let qd : r.domain ≡ t.domain = ap (λ (o : DomainObject). o.domain) q in
          let qk : r.number ≡ t.number = name_apart r.domain r.number t.number r.number_in (subst (λ (d : ℕ). t.number < count_at problem d) (sym qd) t.number_in) (ap (λ (o : DomainObject). o.number) q ∙ ap (λ (d : ℕ). name d t.number) (sym qd)) in
          r.is ∙ (ap (λ (d : ℕ). heap_number problem (object d r.number)) qd ∙ (ap (λ (k : ℕ). heap_number problem (object t.domain k)) qk ∙ sym t.is))

  -- ---- slots

  abbrev pub on : ℕ → ℕ
  on s = on_slot (space_of problem) name s

  pub on_this : on 0 ≡ 0
  unfolding space_of
  on_this = refl

  pub on_parameter : (i : ℕ) → i < parameters problem → on (i + 1) ≡ i + 1
  unfolding space_of
  on_parameter i h = rw (parameter_slot problem i h).1 refl

  pub on_spot : (d k j : ℕ) → d < length problem.domains → k < count_at problem d → j < width_at problem d → on (first_slot problem d k + j) ≡ first_slot problem d (name d k) + j
  unfolding space_of
  on_spot d k j a b c =
      let e : (slot_at problem (first_slot problem d k + j)).owner ≡ Some (object d k) = ap (λ (x : Slot). x.owner) (object_slot problem d k j a b c).1 in
      let wide : width_in (space_of problem) d ≡ width_at problem d = width_is problem w d a (omega (arith, b)) in
      rw e (ap (λ (x : ℕ). first_slot problem d k + j - k * x + name d k * x) wide ∙ omega arith)

  -- a slot and its renamed one have one domain
  pub on_domain : (s : ℕ) → s < length (slots problem) → (slot_at problem (on s)).domain ≡ (slot_at problem s).domain
  on_domain s h = go (slot_case problem s h)
    where
      go : SlotCase problem s → (slot_at problem (on s)).domain ≡ (slot_at problem s).domain
      go (is_this z) = rw (z, on_this) refl
      go (is_parameter i l z) = rw (z, on_parameter i l) refl
      go (is_spot d k j a b c z) =
          rw (z, on_spot d k j a b c) (ap (λ (x : Slot). x.domain) (object_slot problem d (name d k) j a (name_in d k b) c).1 ∙ sym (ap (λ (x : Slot). x.domain) (object_slot problem d k j a b c).1))

  -- ---- values

  abbrev pub AgreeAt : (v u : List ℕ) → ℕ → Type 0
  AgreeAt v u s = get_or u (on s) 0 ≡ on_index (space_of problem) name s (get_or v s 0)

  plain_same : (v : Value) → IsPlain v → renamed_value heap_name v ≡ v
  plain_same (Int i) p = refl
  plain_same (Truth b) p = refl
  plain_same Null p = refl
  plain_same (Reference o) p = absurd p

  pub record ChoiceAt (v u : List ℕ) (s : ℕ) : Type 0 where
    pub value : value_at problem u (on s) ≡ renamed_value heap_name (value_at problem v s)
    pub none : (choice_at problem v s).object ≡ None → (choice_at problem u (on s)).object ≡ None
    pub some : (o : DomainObject) → (choice_at problem v s).object ≡ Some o → (choice_at problem u (on s)).object ≡ Some (renamed_object name o)

  pub choice_renamed : (v u : List ℕ) (s : ℕ) → s < length (slots problem) → AgreeAt v u s → ChoiceAt v u s
  unfolding space_of
  choice_renamed v u s h agree = go (choice_at problem v s).object refl
    where
      domain : Domain
      domain = (slot_at problem s).domain

      i : ℕ
      i = get_or v s 0

      there : choice_at problem u (on s) ≡ get_or (choices_in problem domain) (get_or u (on s) 0) no_choice
      there = ap (λ (x : Domain). get_or (choices_in problem x) (get_or u (on s) 0) no_choice) (on_domain s h)

      go : (x : Option DomainObject) → (choice_at problem v s).object ≡ x → ChoiceAt v u s
      go None e =
          let is : choice_at problem u (on s) ≡ choice_at problem v s = there ∙ ap (λ (y : ℕ). get_or (choices_in problem domain) y no_choice) (agree ∙ ap (λ (y : Option DomainObject). moved name y 1 i) e) in
          record {
            value = ap (λ (c : Choice). c.value) is ∙ sym (plain_same (value_at problem v s) (plain_choice problem domain i (w.plain s h) e));
            none = λ f. ap (λ (c : Choice). c.object) is ∙ f;
            some = λ o f. absurd (cc (e, f));
          }
      go (Some o) e =
          let b = block_of problem domain i o e in
          let at : i - o.number * 1 + name o.domain o.number * 1 ≡ i - o.number + name o.domain o.number = omega arith in
          let is : choice_at problem u (on s) ≡ object_choice problem (renamed_object name o) = there ∙ (ap (λ (y : ℕ). get_or (choices_in problem domain) y no_choice) (agree ∙ (ap (λ (y : Option DomainObject). moved name y 1 i) e ∙ at)) ∙ b.all (name o.domain o.number) (name_in o.domain o.number b.in_number)) in
          let back : i - o.number + o.number ≡ i = omega (arith, b.room) in
          let was : choice_at problem v s ≡ object_choice problem o = ap (λ (y : ℕ). get_or (choices_in problem domain) y no_choice) (sym back) ∙ b.all o.number b.in_number in
          record {
            value = ap (λ (c : Choice). c.value) is ∙ (ap (λ (y : ℕ). Reference y) (sym (heap_name_at o.domain o.number b.in_domain b.in_number)) ∙ sym (ap (λ (c : Choice). renamed_value heap_name c.value) was));
            none = λ f. absurd (cc (e, f));
            some = λ p f. ap (λ (c : Choice). c.object) is ∙ ap (λ (y : DomainObject). Some (renamed_object name y)) (some_is o p (sym e ∙ f));
          }
