-- Each array of a structure has one length.
use Rattle.std.proofs.Common.{◌≡◌, ℕ, zero, suc, ◌+◌, ◌<◌, inl, inr, Bool, true, false, List, [], ◌∷◌, ◌++◌, length, get_or, refl, sym, ap, subst, ◌∙◌, arith}
use Rattle.std.specs.Prelude.{ℤ, pos, negsuc, map, flat_map, ◌==◌, if◌then◌else◌}
use Rattle.std.specs.List.{AllByRecursion, range_with_len}
use Rattle.kr_laws_runs.proofs.Respects.{AllOf}
use Rattle.kr_laws_pruning.proofs.Membership.{Has}
use Rattle.kr_laws_pruning.proofs.Numbering.{no_spot, first_slot, object_at_number, object_slot, width_at, count_at}
use Rattle.kr_laws_pruning.proofs.Places.{extent_of, kind}
use Rattle.kr_laws_pruning.proofs.Walked.{Valid}
use Rattle.kr_mean.specs.Entries.{structure_of}
use Rattle.kr_mean.specs.Heaps.{length_in, value_at}
use Rattle.kr_mean.specs.Places.{SlotPlace, This, Parameter, At}
use Rattle.kr_mean.specs.Problem.{Problem, Plain, Objects, Domain, DomainObject, Slot, Spotted, choices_in, domain_at, heap_number, slot_at}
use Rattle.kr_mean.specs.Space.{IsVector, no_choice, space_of}
use Rattle.kr_mean.specs.WellFormed.{IsWellFormed, AreSpots, AreLengths}
use Rattle.kr_value.specs.declared.object.Class.{Class}
use Rattle.kr_value.specs.declared.object.Class.TheVariants as classes
use Rattle.kr_value.specs.declared.object.Spot.{Spot}
use Rattle.kr_value.specs.declared.object.Spot.TheVariants.{Field as FieldSpot, Length, Element}
use Rattle.kr_value.specs.declared.value.Value.{Value}
use Rattle.kr_value.specs.declared.value.Value.TheVariants.{Int, Bool as Truth, Null, Ref as Reference}
use Rattle.kr_emit_meaning.specs.Builders.{class_of_object}
use Rattle.kr_emit_laws.specs.TextLaws.{HasLength, HasLengths}
use Rattle.kr_emit_laws.specs.Syntax.{lengths_at, lengths_of}
use Rattle.kr_emit_laws.proofs.Structures.{all_valid, flat_each, met, objects_are, of_one, picked, spots_of}

-- a number at a length
abbrev number_of : Value → List ℤ
number_of (Int n) = n ∷ []
number_of (Truth b) = []
number_of Null = []
number_of (Reference o) = []

abbrev size : Value → Spot → List ℤ
size x Length = number_of x
size x (FieldSpot f) = []
size x (Element k) = []

nothing : (b : Bool) → [] ≡ (let xs : List ℤ = if b then [] else [] in xs)
nothing true = refl
nothing false = refl

-- ---- the spots of an array

elements_none : (a k m : ℕ) (g : ℕ → Value) → flat_map (λ j. size (g j) (kind (classes.Array a) j)) (range_with_len (suc k) m) ≡ []
elements_none a k zero g = refl
elements_none a k (suc m) g =
    let on : suc k + 1 ≡ suc (suc k) = omega arith in
    ap (λ (x : ℕ). flat_map (λ j. size (g j) (kind (classes.Array a) j)) (range_with_len x m)) on ∙ elements_none a (suc k) m g

array_size : (a m : ℕ) (g : ℕ → Value) (z : ℤ) → g 0 ≡ Int z → flat_map (λ j. size (g j) (kind (classes.Array a) j)) (range_with_len 0 (suc m)) ≡ z ∷ []
array_size a m g z e =
    let rest : flat_map (λ j. size (g j) (kind (classes.Array a) j)) (range_with_len 1 m) ≡ [] = elements_none a 0 m g in
    ap (λ (x : Value). number_of x ++ flat_map (λ j. size (g j) (kind (classes.Array a) j)) (range_with_len 1 m)) e ∙ ap (λ (xs : List ℤ). z ∷ xs) rest

-- a length is a number
is_number : (problem : Problem) (most : ℕ) (domain : Domain) (i : ℕ) → AreLengths most domain → i < length (choices_in problem domain) → (n : ℕ) × ((get_or (choices_in problem domain) i no_choice).value ≡ Int (pos n))
is_number problem most [] i h l = absurd (omega (arith, l))
is_number problem most (Plain (Int (pos n)) ∷ items) zero h l = (n, refl)
is_number problem most (Plain (Int (pos n)) ∷ items) (suc i) h l = is_number problem most items i h.1 (omega (arith, l))
is_number problem most (Plain (Int (negsuc n)) ∷ items) i h l = absurd h
is_number problem most (Plain (Truth b) ∷ items) i h l = absurd h
is_number problem most (Plain Null ∷ items) i h l = absurd h
is_number problem most (Plain (Reference o) ∷ items) i h l = absurd h
is_number problem most (Objects d ∷ items) i h l = absurd h

module _ (problem : Problem) (w : IsWellFormed problem) (v : List ℕ) (is : IsVector (space_of problem) v) where
  abbrev number : DomainObject → ℕ
  number o = heap_number problem o

  same : (o : ℕ) (x : Value) (place : SlotPlace) → lengths_at o x place ≡ picked problem w v size o x place
  same o (Int n) (At p Length) = refl
  same o (Int n) (At p (FieldSpot f)) = nothing (p == o)
  same o (Int n) (At p (Element i)) = nothing (p == o)
  same o (Truth b) (At p Length) = nothing (p == o)
  same o (Truth b) (At p (FieldSpot f)) = nothing (p == o)
  same o (Truth b) (At p (Element i)) = nothing (p == o)
  same o Null (At p Length) = nothing (p == o)
  same o Null (At p (FieldSpot f)) = nothing (p == o)
  same o Null (At p (Element i)) = nothing (p == o)
  same o (Reference r) (At p Length) = nothing (p == o)
  same o (Reference r) (At p (FieldSpot f)) = nothing (p == o)
  same o (Reference r) (At p (Element i)) = nothing (p == o)
  same o (Int n) This = refl
  same o (Truth b) This = refl
  same o Null This = refl
  same o (Reference r) This = refl
  same o (Int n) (Parameter i) = refl
  same o (Truth b) (Parameter i) = refl
  same o Null (Parameter i) = refl
  same o (Reference r) (Parameter i) = refl

  lengths_are : (o : DomainObject) → Valid problem o → Has o (met problem w v) → lengths_of problem (structure_of problem v) (number o) ≡ spots_of problem w v size o
  lengths_are o h i =
      flat_each (λ (p : ℕ × Value). lengths_at (number o) p.1 (slot_at problem p.0).place) (λ (p : ℕ × Value). picked problem w v size (number o) p.1 (slot_at problem p.0).place) (structure_of problem v)
      (λ p. same (number o) p.1 (slot_at problem p.0).place)
      ∙ of_one problem w v size o h i

  -- the value at an array's length
  first_number : (d k a : ℕ) → d < length problem.domains → k < count_at problem d → (ss : List Spotted) → (domain_at problem d).spots ≡ ss → AreSpots (classes.Array a) ss → (n : ℕ) × (value_at problem v (first_slot problem d k + 0) ≡ Int (pos n))
  unfolding space_of
  first_number d k a x y [] e h = absurd h
  first_number d k a x y (s ∷ ss) e h =
      let wide : 0 < width_at problem d = omega (arith, ap (λ (l : List Spotted). length l) e) in
      let r = object_slot problem d k 0 x y wide in
      let at = first_slot problem d k + 0 in
      let domain : (slot_at problem at).domain ≡ s.domain = ap (λ (slot : Slot). slot.domain) r.1 ∙ ap (λ (l : List Spotted). (get_or l 0 no_spot).domain) e in
      let within : get_or v at 0 < length (choices_in problem s.domain) = subst (λ (xs : Domain). get_or v at 0 < length (choices_in problem xs)) domain (is.within at r.0) in
      let n = is_number problem (length ss) s.domain (get_or v at 0) h.2 within in
      (n.0, ap (λ (xs : Domain). (get_or (choices_in problem xs) (get_or v at 0) no_choice).value) domain ∙ n.1)

  has_length : (o : DomainObject) → Valid problem o → Has o (met problem w v) → (c : Class) → (domain_at problem o.domain).class ≡ c → HasLength problem (structure_of problem v) (number o) c
  has_length o h i (classes.Object c) e = tt
  has_length o h i classes.Set e = tt
  has_length o h i classes.List e = tt
  has_length o h i (classes.Array a) e =
      let first = first_slot problem o.domain o.number in
      let g : ℕ → Value = λ j. value_at problem v (first + j) in
      let n = first_number o.domain o.number a h.0 h.1 (domain_at problem o.domain).spots refl (subst (λ (c : Class). AreSpots c (domain_at problem o.domain).spots) e (w.spots o.domain h.0)) in
      let by : spots_of problem w v size o ≡ flat_map (λ j. size (g j) (kind (classes.Array a) j)) (range_with_len 0 (extent_of (classes.Array a) (width_at problem o.domain) (value_at problem v first))) =
      ap (λ (c : Class). flat_map (λ j. size (g j) (kind c j)) (range_with_len 0 (extent_of c (width_at problem o.domain) (value_at problem v first)))) e in
      (pos n.0, lengths_are o h i ∙ (by ∙ array_size a (length_in (value_at problem v first)) g (pos n.0) n.1))

  class_is : (o : DomainObject) → Valid problem o → (domain_at problem o.domain).class ≡ class_of_object problem (number o)
  class_is o h = sym (ap (λ (x : DomainObject). (domain_at problem x.domain).class) (object_at_number problem o.domain o.number h.0 h.1).1)

  abbrev HasLengthAt : ℕ → Type 0
  HasLengthAt n = HasLength problem (structure_of problem v) n (class_of_object problem n)

  have_lengths : (os : List DomainObject) → AllOf (Valid problem) os → ((o : DomainObject) → Has o os → Has o (met problem w v)) → AllByRecursion HasLengthAt (map number os)
  have_lengths [] a h = tt
  have_lengths (o ∷ os) a h = (has_length o a.0 (h o (inl refl)) (class_of_object problem (number o)) (class_is o a.0), have_lengths os a.1 (λ x i. h x (inr i)))

  pub lengths : HasLengths problem (structure_of problem v)
  lengths = subst (AllByRecursion HasLengthAt) (sym (objects_are problem w v)) (have_lengths (met problem w v) (all_valid problem w v) (λ o i. i))
