-- The heap of a vector whose slot has another index.
use Rattle.std.proofs.Common.{◌≡◌, ℕ, zero, suc, ◌+◌, ◌++◌, ◌<◌, ◌≤◌, ◌⊎◌, inl, inr, Bool, true, false, List, [], ◌∷◌, length, get_or, Option, Some, None, refl, sym, ap, ◌∙◌, subst, arith, append_assoc}
use Rattle.std.specs.Prelude.{map, filter, take, slice_set}
use Rattle.std.specs.List.{range_with_len}
use Rattle.std.proofs.lemmas.List.{ext_get_or, get_or-set_same, get_or-set_other, length-set}
use Rattle.std.proofs.lemmas.Bool.{cases_eq, cases_lt}
use Rattle.kr_value.specs.Heaps.{Heap, HeapObject, object_in, no_object}
use Rattle.kr_value.specs.declared.object.Class.{Class}
use Rattle.kr_value.specs.declared.object.Class.TheVariants.{Object, Array, Set, List as ListClass}
use Rattle.kr_value.specs.declared.object.Spot.{Spot}
use Rattle.kr_value.specs.declared.value.Value.{Value}
use Rattle.kr_heap.specs.Objects.{with_value, with_values}
use Rattle.kr_mean.specs.Problem.{Problem, DomainObject, choices_at, Slot, domain_at, heap_number, slot_at, slots, upto}
use Rattle.kr_mean.specs.Heaps.{heap_object, heap_of, is_owner, length_in, slots_owned, slots_there, value_at, values_there}
use Rattle.kr_mean.specs.Space.{IsVector, no_choice, space_of}
use Rattle.kr_mean.specs.Places.{SlotPlace, This, Parameter, At}
use Rattle.kr_mean.specs.WellFormed.{AreSpots, IsWellFormed}
use Rattle.kr_laws_pruning.proofs.Numbering as numbering
use Rattle.kr_laws_pruning.proofs.Numbering.{width_at, object, number_of_object, object_at_number, count_at, parameter_slot, object_slot, SlotCase, is_this, is_parameter, is_spot, slot_case}
use Rattle.kr_build.specs.Renewed.{IsSameBut, position_of}
use Rattle.kr_build.proofs.Rows.{InDomain}
use Rattle.kr_laws_pruning.proofs.Places.{heap_class, heap_get, heap_long, heap_values, kind, same_objects, spot_is}

-- ---- slots at which two functions agree

Same : (ℕ → Value) → (ℕ → Value) → List ℕ → Type 0
Same f g [] = Unit {0}
Same f g (s ∷ ss) = (f s ≡ g s) × Same f g ss

same_map : (f g : ℕ → Value) (ss : List ℕ) → Same f g ss → map f ss ≡ map g ss
unfolding Same
same_map f g [] a = refl
same_map f g (s ∷ ss) a = ap (λ (x : Value). x ∷ map f ss) a.0 ∙ ap (λ (xs : List Value). g s ∷ xs) (same_map f g ss a.1)

same_take : (f g : ℕ → Value) (n : ℕ) (ss : List ℕ) → Same f g ss → Same f g (take n ss)
unfolding Same
same_take f g zero ss a = tt
same_take f g (suc n) [] a = tt
same_take f g (suc n) (s ∷ ss) a = (a.0, same_take f g n ss a.1)

same_filter : (f g : ℕ → Value) (p : ℕ → Bool) → ((s : ℕ) → p s ≡ true → f s ≡ g s) → (ss : List ℕ) → Same f g (filter p ss)
unfolding Same
same_filter f g p h [] = tt
same_filter f g p h (s ∷ ss) = go (p s) refl (same_filter f g p h ss)
  where
    go : (b : Bool) → p s ≡ b → Same f g (filter p ss) → Same f g (filter p (s ∷ ss))
    go true e r = rw e (h s e, r)
    go false e r = rw e r

-- ---- an object that doesn't own the slot stays

module _ (problem : Problem) (v : List ℕ) (s i : ℕ) where
  new : List ℕ
  new = slice_set v s i

  value_same : (t : ℕ) → (t ≡ s → ⊥) → value_at problem new t ≡ value_at problem v t
  unfolding new
  value_same t h = ap (λ (n : ℕ). (get_or (choices_at problem t) n no_choice).value) (get_or-set_other v s t i 0 h)

  owned_same : (o : DomainObject) → (is_owner o (slot_at problem s).owner ≡ true → ⊥) → Same (value_at problem new) (value_at problem v) (slots_owned problem o)
  owned_same o h = same_filter (value_at problem new) (value_at problem v) (λ t. is_owner o (slot_at problem t).owner)
      (λ t e. value_same t (λ q. h (subst (λ (x : ℕ). is_owner o (slot_at problem x).owner ≡ true) q e))) (upto (length (slots problem)))

  there_same : (c : Class) (ss : List ℕ) → Same (value_at problem new) (value_at problem v) ss → map (value_at problem new) (slots_there problem new c ss) ≡ map (value_at problem v) (slots_there problem v c ss)
  unfolding Same
  there_same (Array t) [] a = refl
  there_same (Array t) (r ∷ rs) a =
      ap (λ (x : Value). map (value_at problem new) (take (length_in x + 1) (r ∷ rs))) a.0
      ∙ same_map (value_at problem new) (value_at problem v) (take (length_in (value_at problem v r) + 1) (r ∷ rs)) (same_take (value_at problem new) (value_at problem v) (length_in (value_at problem v r) + 1) (r ∷ rs) a)
  there_same (Object c) ss a = same_map (value_at problem new) (value_at problem v) ss a
  there_same Set ss a = same_map (value_at problem new) (value_at problem v) ss a
  there_same ListClass ss a = same_map (value_at problem new) (value_at problem v) ss a

  object_same : (o : DomainObject) → (is_owner o (slot_at problem s).owner ≡ true → ⊥) → heap_object problem new o ≡ heap_object problem v o
  object_same o h = ap (λ (xs : List Value). record { class = (domain_at problem o.domain).class; values = values_there (domain_at problem o.domain).class xs }) (there_same (domain_at problem o.domain).class (slots_owned problem o) (owned_same o h))

  -- ---- the heap

  -- a slot that isn't an object's changes no object
  pub heap_of_root : IsWellFormed problem → (slot_at problem s).owner ≡ None → heap_of problem (slice_set v s i) ≡ heap_of problem v
  unfolding new
  heap_of_root w e = ext_get_or no_object (heap_of problem new) (heap_of problem v) (heap_long problem w new ∙ sym (heap_long problem w v)) same
    where
      same : (n : ℕ) → n < length (heap_of problem new) → get_or (heap_of problem new) n no_object ≡ get_or (heap_of problem v) n no_object
      same n lt =
          let d = number_of_object problem n (subst (λ (m : ℕ). n < m) (heap_long problem w new) lt) in
          let apart : is_owner (object d.domain d.number) (slot_at problem s).owner ≡ true → ⊥ = λ q. cc (q, ap (is_owner (object d.domain d.number)) e) in
          subst (λ (m : ℕ). get_or (heap_of problem new) m no_object ≡ get_or (heap_of problem v) m no_object) (sym d.is)
          (heap_get problem w new d.domain d.number d.domain_in d.number_in ∙ (object_same (object d.domain d.number) apart ∙ sym (heap_get problem w v d.domain d.number d.domain_in d.number_in)))

  -- a slot of an object changes that object alone
  pub heap_of_set : IsWellFormed problem → (d k : ℕ) → d < length problem.domains → k < count_at problem d → (slot_at problem s).owner ≡ Some (object d k)
      → heap_of problem (slice_set v s i) ≡ with_values (heap_of problem v) (heap_number problem (object d k)) (heap_object problem (slice_set v s i) (object d k)).values
  unfolding new
  heap_of_set w d k a b e = ext_get_or no_object (heap_of problem new) changed long same
    where
      number : ℕ
      number = heap_number problem (object d k)

      one : HeapObject
      one = record { class = (object_in (heap_of problem v) number).class; values = (heap_object problem new (object d k)).values }

      changed : Heap
      changed = slice_set (heap_of problem v) number one

      inside : number < length (heap_of problem v)
      inside = subst (λ (m : ℕ). number < m) (sym (heap_long problem w v)) (object_at_number problem d k a b).0

      long : length (heap_of problem new) ≡ length changed
      long = heap_long problem w new ∙ (sym (heap_long problem w v) ∙ sym (length-set (heap_of problem v) number one))

      one_is : one ≡ heap_object problem new (object d k)
      one_is = ap (λ (c : Class). record { class = c; values = (heap_object problem new (object d k)).values }) (heap_class problem w v d k a b)

      here : get_or (heap_of problem new) number no_object ≡ get_or changed number no_object
      here = heap_get problem w new d k a b ∙ (sym one_is ∙ sym (get_or-set_same (heap_of problem v) number one no_object inside))

      same : (n : ℕ) → n < length (heap_of problem new) → get_or (heap_of problem new) n no_object ≡ get_or changed n no_object
      same n lt = go (cases_eq n number)
        where
          go : (n ≡ number) ⊎ (n ≡ number → ⊥) → get_or (heap_of problem new) n no_object ≡ get_or changed n no_object
          go (inl q) = subst (λ (m : ℕ). get_or (heap_of problem new) m no_object ≡ get_or changed m no_object) (sym q) here
          go (inr q) =
              let c = number_of_object problem n (subst (λ (m : ℕ). n < m) (heap_long problem w new) lt) in
              let apart : is_owner (object c.domain c.number) (slot_at problem s).owner ≡ true → ⊥ = λ t.
              let t' = sym (ap (is_owner (object c.domain c.number)) e) ∙ t in
              q (c.is ∙ ap (heap_number problem) (same_objects (object c.domain c.number) (object d k) t')) in
              subst (λ (m : ℕ). get_or (heap_of problem new) m no_object ≡ get_or (heap_of problem v) m no_object) (sym c.is)
              (heap_get problem w new c.domain c.number c.domain_in c.number_in ∙ (object_same (object c.domain c.number) apart ∙ sym (heap_get problem w v c.domain c.number c.domain_in c.number_in)))
              ∙ sym (get_or-set_other (heap_of problem v) number n one no_object q)

  -- likewise, with a name for the changed vector
  pub heap_with : IsWellFormed problem → (o : DomainObject) (u : List ℕ) → u ≡ slice_set v s i → InDomain problem o → (slot_at problem s).owner ≡ Some o → heap_of problem u ≡ with_values (heap_of problem v) (heap_number problem o) (heap_object problem u o).values
  heap_with w o u q d e = subst (λ (x : List ℕ). heap_of problem x ≡ with_values (heap_of problem v) (heap_number problem o) (heap_object problem x o).values) (sym q) (heap_of_set w o.domain o.number d.domain d.number e)

  pub heap_without : IsWellFormed problem → (u : List ℕ) → u ≡ slice_set v s i → (slot_at problem s).owner ≡ None → heap_of problem u ≡ heap_of problem v
  heap_without w u q e = ap (heap_of problem) q ∙ heap_of_root w e

  pub vector_set : IsVector (space_of problem) v → s < length (slots problem) → i < length (choices_at problem s) → IsVector (space_of problem) (slice_set v s i)
  unfolding space_of
  vector_set j h b = record { long = length-set v s i ∙ j.long; within = λ t l. go t l (cases_eq t s) }
    where
      go : (t : ℕ) → t < length (slots problem) → (t ≡ s) ⊎ (t ≡ s → ⊥) → get_or (slice_set v s i) t 0 < length (choices_at problem t)
      go t l (inl q) = subst (λ (x : ℕ). get_or (slice_set v s i) x 0 < length (choices_at problem x)) (sym q) (subst (λ (n : ℕ). n < length (choices_at problem s)) (sym (get_or-set_same v s i 0 (omega (arith, h, j.long)))) b)
      go t l (inr q) = subst (λ (n : ℕ). n < length (choices_at problem t)) (sym (get_or-set_other v s t i 0 q)) (j.within t l)

-- whose slot it is, is an object of the problem
pub owner_in : (problem : Problem) (s : ℕ) (o : DomainObject) → s < length (slots problem) → (slot_at problem s).owner ≡ Some o → InDomain problem o
owner_in problem s o h e = go (slot_case problem s h)
  where
    go : SlotCase problem s → InDomain problem o
    go (is_this z) = let q : (slot_at problem s).owner ≡ None = rw z refl in absurd (cc (q, e))
    go (is_parameter i l z) = let q : (slot_at problem s).owner ≡ None = rw (z, (parameter_slot problem i l).1) refl in absurd (cc (q, e))
    go (is_spot d k j a b c z) =
        let q : (slot_at problem s).owner ≡ Some (object d k) = ap (λ (x : ℕ). (slot_at problem x).owner) z ∙ ap (λ (x : Slot). x.owner) (object_slot problem d k j a b c).1 in
        let is : object d k ≡ o = cc (q, e) in
        subst (InDomain problem) is (record { domain = a; number = b })

-- values at consecutive slots, of which one has changed
same_range : (f g : ℕ → Value) (a n : ℕ) → ((t : ℕ) → a ≤ t → f t ≡ g t) → map f (range_with_len a n) ≡ map g (range_with_len a n)
same_range f g a zero h = refl
same_range f g a (suc n) h = ap (λ (x : Value). x ∷ map f (range_with_len (a + 1) n)) (h a (omega arith)) ∙ ap (λ (xs : List Value). g a ∷ xs) (same_range f g (a + 1) n (λ t l. h t (omega (arith, l))))

set_range : (f g : ℕ → Value) (a n j : ℕ) (x : Value) → ((t : ℕ) → (t ≡ a + j → ⊥) → f t ≡ g t) → f (a + j) ≡ x → map f (range_with_len a n) ≡ slice_set (map g (range_with_len a n)) j x
set_range f g a zero j x h e = refl
set_range f g a (suc n) zero x h e =
    let at : a ≡ a + 0 = omega arith in
    ap (λ (y : Value). y ∷ map f (range_with_len (a + 1) n)) (ap f at ∙ e)
    ∙ ap (λ (xs : List Value). x ∷ xs) (same_range f g (a + 1) n (λ t m. h t (λ q. omega (arith, m, q))))
set_range f g a (suc n) (suc j) x h e =
    let at : a + 1 + j ≡ a + suc j = omega arith in
    ap (λ (y : Value). y ∷ map f (range_with_len (a + 1) n)) (h a (λ q. omega (arith, q)))
    ∙ ap (λ (xs : List Value). g a ∷ xs) (set_range f g (a + 1) n j x (λ t m. h t (λ q. m (q ∙ sym at))) (ap f at ∙ e))

-- a slot of an object that has fields changes that field alone
field_set : (problem : Problem) → IsWellFormed problem → (v u : List ℕ) (s i : ℕ) → u ≡ slice_set v s i → (o : DomainObject) → InDomain problem o → (slot_at problem s).owner ≡ Some o → (c : ℕ) → (domain_at problem o.domain).class ≡ Object c
    → (j : ℕ) → numbering.first_slot problem o.domain o.number + j ≡ s → j < width_at problem o.domain → heap_of problem u ≡ with_value (heap_of problem v) (heap_number problem o) j (value_at problem u s)
unfolding new
field_set problem w v u s i q o d e c class j at l =
    let first = numbering.first_slot problem o.domain o.number in
    let width = width_at problem o.domain in
    let old = heap_values problem w v o.domain o.number (Object c) d.domain d.number class in
    let new : (heap_object problem u o).values ≡ map (value_at problem u) (range_with_len first width) =
    ap (λ (x : HeapObject). x.values) (sym (heap_get problem w u o.domain o.number d.domain d.number)) ∙ heap_values problem w u o.domain o.number (Object c) d.domain d.number class in
    let others = λ (t : ℕ) (m : t ≡ first + j → ⊥).
    subst (λ (x : List ℕ). value_at problem x t ≡ value_at problem v t) (sym q) (value_same problem v s i t (λ y. m (y ∙ sym at))) in
    let one = set_range (value_at problem u) (value_at problem v) first width j (value_at problem u s) others (ap (value_at problem u) at) in
    heap_with problem v s i w o u q d e
    ∙ ap (λ (xs : List Value). with_values (heap_of problem v) (heap_number problem o) xs) (new ∙ (one ∙ ap (λ (xs : List Value). slice_set xs j (value_at problem u s)) (sym old)))

-- a slot of an array after its length changes that element alone, or nothing past its length
element_set : (problem : Problem) → IsWellFormed problem → (v u : List ℕ) (s i : ℕ) → u ≡ slice_set v s i → (o : DomainObject) → InDomain problem o → (slot_at problem s).owner ≡ Some o → (t : ℕ) → (domain_at problem o.domain).class ≡ Array t
    → (m : ℕ) → numbering.first_slot problem o.domain o.number + 1 + m ≡ s → heap_of problem u ≡ with_value (heap_of problem v) (heap_number problem o) m (value_at problem u s)
unfolding new
element_set problem w v u s i q o d e t class m at =
    let first = numbering.first_slot problem o.domain o.number in
    let old = heap_values problem w v o.domain o.number (Array t) d.domain d.number class in
    let others = λ (r : ℕ) (k : r ≡ first + 1 + m → ⊥).
    subst (λ (x : List ℕ). value_at problem x r ≡ value_at problem v r) (sym q) (value_same problem v s i r (λ y. k (y ∙ sym at))) in
    let head : value_at problem u first ≡ value_at problem v first = others first (λ y. omega (arith, y)) in
    let new : (heap_object problem u o).values ≡ map (value_at problem u) (range_with_len (first + 1) (length_in (value_at problem u first))) =
    ap (λ (x : HeapObject). x.values) (sym (heap_get problem w u o.domain o.number d.domain d.number)) ∙ heap_values problem w u o.domain o.number (Array t) d.domain d.number class in
    let long = ap (λ (x : Value). map (value_at problem u) (range_with_len (first + 1) (length_in x))) head in
    let one = set_range (value_at problem u) (value_at problem v) (first + 1) (length_in (value_at problem v first)) m (value_at problem u s) others (ap (value_at problem u) at) in
    heap_with problem v s i w o u q d e
    ∙ ap (λ (xs : List Value). with_values (heap_of problem v) (heap_number problem o) xs) (new ∙ (long ∙ (one ∙ ap (λ (xs : List Value). slice_set xs m (value_at problem u s)) (sym old))))

-- the values of a heap after a change at a position of an object, if it is one
abbrev pub Writes : Heap → Heap → ℕ → Option ℕ → Value → Type 0
Writes h g o None x = Unit {0}
Writes h g o (Some at) x = g ≡ with_value h o at x

-- what a changed slot changes in the heap, by its place
abbrev pub Changes : Problem → List ℕ → List ℕ → ℕ → SlotPlace → Type 0
Changes problem v u s This = heap_of problem u ≡ heap_of problem v
Changes problem v u s (Parameter i) = heap_of problem u ≡ heap_of problem v
Changes problem v u s (At o spot) = Writes (heap_of problem v) (heap_of problem u) o (position_of spot) (value_at problem u s)

module _ (problem : Problem) (w : IsWellFormed problem) (v u : List ℕ) (s i : ℕ) (q : u ≡ slice_set v s i) where
  spot_changes : (d k j : ℕ) → d < length problem.domains → k < count_at problem d → j < width_at problem d → s ≡ numbering.first_slot problem d k + j → (slot_at problem s).owner ≡ Some (object d k)
      → (c : Class) → (domain_at problem d).class ≡ c → AreSpots c (domain_at problem d).spots → Changes problem v u s (At (heap_number problem (object d k)) (kind c j))
  spot_changes d k j a b c z e (Object t) class h = field_set problem w v u s i q (object d k) (record { domain = a; number = b }) e t class j (sym z) c
  spot_changes d k zero a b c z e (Array t) class h = tt
  spot_changes d k (suc m) a b c z e (Array t) class h = element_set problem w v u s i q (object d k) (record { domain = a; number = b }) e t class m (omega (arith, z))
  spot_changes d k j a b c z e Set class h = absurd h
  spot_changes d k j a b c z e ListClass class h = absurd h

  place_of_slot : SlotCase problem s → Changes problem v u s (slot_at problem s).place
  place_of_slot (is_this z) =
      let p : (slot_at problem s).place ≡ This = rw z refl in
      let e : (slot_at problem s).owner ≡ None = rw z refl in
      subst (Changes problem v u s) (sym p) (heap_without problem v s i w u q e)
  place_of_slot (is_parameter n l z) =
      let p : (slot_at problem s).place ≡ Parameter n = ap (λ (x : ℕ). (slot_at problem x).place) z ∙ ap (λ (x : Slot). x.place) (parameter_slot problem n l).1 in
      let e : (slot_at problem s).owner ≡ None = rw (z, (parameter_slot problem n l).1) refl in
      subst (Changes problem v u s) (sym p) (heap_without problem v s i w u q e)
  place_of_slot (is_spot d k j a b c z) =
      let p : (slot_at problem s).place ≡ At (heap_number problem (object d k)) (kind (domain_at problem d).class j) =
      ap (λ (x : ℕ). (slot_at problem x).place) z ∙ (ap (λ (x : Slot). x.place) (object_slot problem d k j a b c).1 ∙ ap (λ (x : Spot). At (heap_number problem (object d k)) x) (spot_is problem w d j a c)) in
      let e : (slot_at problem s).owner ≡ Some (object d k) = ap (λ (x : ℕ). (slot_at problem x).owner) z ∙ ap (λ (x : Slot). x.owner) (object_slot problem d k j a b c).1 in
      subst (Changes problem v u s) (sym p) (spot_changes d k j a b c z e (domain_at problem d).class refl (w.spots d a))

  pub place_changes : s < length (slots problem) → Changes problem v u s (slot_at problem s).place
  place_changes h = place_of_slot (slot_case problem s h)

pub vector_long : (problem : Problem) (v : List ℕ) → IsVector (space_of problem) v → length v ≡ length (slots problem)
unfolding space_of
vector_long problem v j = j.long

-- one more index of another vector, after the first ones
pub front_more : (u v : List ℕ) (n : ℕ) → n < length u → ((s : ℕ) → s < n → get_or u s 0 ≡ get_or v s 0) → (s : ℕ) → s < n + 1 → get_or (slice_set u n (get_or v n 0)) s 0 ≡ get_or v s 0
front_more u v n h f s l = go (cases_eq s n)
  where
    go : (s ≡ n) ⊎ (s ≡ n → ⊥) → get_or (slice_set u n (get_or v n 0)) s 0 ≡ get_or v s 0
    go (inl q) = subst (λ (x : ℕ). get_or (slice_set u n (get_or v n 0)) x 0 ≡ get_or v x 0) (sym q) (get_or-set_same u n (get_or v n 0) 0 h)
    go (inr q) = get_or-set_other u n s (get_or v n 0) 0 q ∙ f s (omega (arith, l, q))

-- one more index of another vector, from one slot to another
pub within_more : (u v : List ℕ) (n high : ℕ) → n < length u → IsSameBut u v n high → IsSameBut (slice_set u n (get_or v n 0)) v (n + 1) high
within_more u v n high h f = λ s l. go s l (cases_eq s n)
  where
    go : (s : ℕ) → (s < n + 1) ⊎ (high ≤ s) → (s ≡ n) ⊎ (s ≡ n → ⊥) → get_or (slice_set u n (get_or v n 0)) s 0 ≡ get_or v s 0
    go s l (inl q) = subst (λ (x : ℕ). get_or (slice_set u n (get_or v n 0)) x 0 ≡ get_or v x 0) (sym q) (get_or-set_same u n (get_or v n 0) 0 h)
    go s (inl l) (inr q) = get_or-set_other u n s (get_or v n 0) 0 q ∙ f s (inl (omega (arith, l, q)))
    go s (inr l) (inr q) = get_or-set_other u n s (get_or v n 0) 0 q ∙ f s (inr l)

-- where all slots between are the same all are
pub all_within : (u v : List ℕ) (n high : ℕ) → length u ≡ length v → high ≤ n → IsSameBut u v n high → u ≡ v
all_within u v n high long le f = ext_get_or 0 u v long (λ s l. go s (cases_lt s n))
  where
    go : (s : ℕ) → (s < n) ⊎ (n ≤ s) → get_or u s 0 ≡ get_or v s 0
    go s (inl l) = f s (inl l)
    go s (inr l) = f s (inr (omega (arith, l, le)))

-- ---- values of one object

pub with_more : (h : Heap) (o : ℕ) (xs ys : List Value) → with_values (with_values h o xs) o ((object_in (with_values h o xs) o).values ++ ys) ≡ with_values h o (xs ++ ys)
with_more [] o xs ys = refl
with_more (r ∷ rs) zero xs ys = refl
with_more (r ∷ rs) (suc o) xs ys = ap (λ (h : Heap). r ∷ h) (with_more rs o xs ys)

range_more : (f : ℕ → Value) (a n : ℕ) → map f (range_with_len a (suc n)) ≡ map f (range_with_len a n) ++ f (a + n) ∷ []
range_more f a zero = let e : a ≡ a + 0 = omega arith in ap (λ (k : ℕ). f k ∷ []) e
range_more f a (suc n) =
    let e : a + 1 + n ≡ a + suc n = omega arith in
    ap (λ (xs : List Value). f a ∷ xs) (range_more f (a + 1) n ∙ ap (λ (k : ℕ). map f (range_with_len (a + 1) n) ++ f k ∷ []) e)

-- one more value after those that an object has got
pub with_next : (h k j : Heap) (o : ℕ) (f : ℕ → Value) (a n : ℕ) (x : Value) (xs : List Value) → k ≡ with_values h o (xs ++ map f (range_with_len a n)) → x ≡ f (a + n) → j ≡ with_values k o ((object_in k o).values ++ x ∷ []) → j ≡ with_values h o (xs ++ map f (range_with_len a (n + 1)))
with_next h k j o f a n x xs e q g =
    let m : suc n ≡ n + 1 = omega arith in
    g
    ∙ (ap (λ (i : Heap). with_values i o ((object_in i o).values ++ x ∷ [])) e
    ∙ (with_more h o (xs ++ map f (range_with_len a n)) (x ∷ [])
    ∙ ap (λ (ys : List Value). with_values h o ys) (append_assoc xs (map f (range_with_len a n)) (x ∷ [])
    ∙ ap (λ (ys : List Value). xs ++ ys) (ap (λ (y : Value). map f (range_with_len a n) ++ y ∷ []) q ∙ (sym (range_more f a n) ∙ ap (λ (i : ℕ). map f (range_with_len a i)) m)))))

-- an object's values are given anew
pub with_anew : (h k j : Heap) (o : ℕ) (xs ys : List Value) → k ≡ with_values h o [] → j ≡ with_values k o ((object_in k o).values ++ xs) → xs ≡ ys → j ≡ with_values h o ys
with_anew h k j o xs ys e g q = g ∙ (ap (λ (i : Heap). with_values i o ((object_in i o).values ++ xs)) e ∙ (with_more h o [] xs ∙ ap (λ (zs : List Value). with_values h o zs) q))
