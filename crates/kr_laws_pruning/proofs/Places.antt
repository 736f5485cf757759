-- The slots of an object and of a place, and what the heap of a vector has there.
use Rattle.std.proofs.Common.{◌≡◌, ℕ, zero, suc, ◌+◌, ◌-◌, ◌<◌, ◌≤◌, ◌⊎◌, inl, inr, Bool, true, false, List, [], ◌∷◌, length, get_or, Some, refl, sym, ap, ◌∙◌, arith, subst}
use Rattle.std.specs.Prelude.{map, filter, take, pos, negsuc, ◌==◌}
use Rattle.std.specs.List.{range_with_len}
use Rattle.std.proofs.lemmas.List.{length-map, get_or_past}
use Rattle.std.proofs.lemmas.List.FromFn.{get_or-map-range_with_len, length-map-range_with_len}
use Rattle.std.proofs.lemmas.Bool.{cases_lt, eq-eqb, eqb-true, and_parts, false_from_ne_true}
use Rattle.kr_mean.specs.Problem.{Problem, Domain, Plain, Objects, choices_in, DomainObject, Spotted, Slot, slots, slot_at, all_objects, heap_number, domain_at, upto}
use Rattle.kr_mean.specs.Places.{SlotPlace, This, Parameter, At}
use Rattle.kr_mean.specs.Heaps.{heap_of, heap_object, value_at, is_same_object, is_owner, length_in, slots_owned, slots_there, slots_in, values_there}
use Rattle.kr_value.specs.Heaps.{value_of_spot}
use Rattle.kr_mean.specs.Runs.{slots_for, is_same_place, is_same_spot}
use Rattle.kr_mean.specs.WellFormed.{AreFields, AreElements, AreLengths, AreSpots, IsWellFormed}
use Rattle.kr_mean.specs.Space.{no_choice}
use Rattle.kr_value.specs.Heaps.{HeapObject, object_in, no_object}
use Rattle.kr_value.specs.declared.object.Class.{Class}
use Rattle.kr_value.specs.declared.object.Class.TheVariants.{Object, Array, Set, List as ListClass}
use Rattle.kr_value.specs.declared.object.Spot.{Spot}
use Rattle.kr_value.specs.declared.object.Spot.TheVariants.{Field, Length, Element}
use Rattle.kr_value.specs.declared.value.Value.{Value}
use Rattle.kr_value.specs.declared.value.Value.TheVariants.{Int, Bool as Truth, Ref as Reference, Null}
use Rattle.kr_laws_pruning.proofs.Numbering.{object, nobody, no_spot, count_at, width_at, spotted_at, get_map, parameters, first_slot, parameter_slot, object_slot, SlotCase, is_this, is_parameter, is_spot, slot_case, object_at_number}

-- ---- one stretch of a range

pub filter_none : (p : ℕ → Bool) (lo n : ℕ) → ((s : ℕ) → lo ≤ s → s < lo + n → p s ≡ false) → filter p (range_with_len lo n) ≡ []
filter_none p lo zero miss = refl
filter_none p lo (suc n) miss = rw (miss lo (omega arith) (omega arith)) (filter_none p (lo + 1) n (λ s a b. miss s (omega (arith, a)) (omega (arith, b))))

pub filter_stretch : (p : ℕ → Bool) (lo n a w : ℕ) → lo ≤ a → a + w ≤ lo + n → ((s : ℕ) → a ≤ s → s < a + w → p s ≡ true) → ((s : ℕ) → lo ≤ s → s < lo + n → (s < a) ⊎ (a + w ≤ s) → p s ≡ false) → filter p (range_with_len lo n) ≡ range_with_len a w
filter_stretch p lo n a zero l h hit miss = filter_none p lo n (λ s b c. miss s b c (go s (cases_lt s a)))
  where
    go : (s : ℕ) → (s < a) ⊎ (a ≤ s) → (s < a) ⊎ (a + 0 ≤ s)
    go s (inl lt) = inl lt
    go s (inr le) = inr (omega (arith, le))
filter_stretch p lo zero a (suc w) l h hit miss = absurd (omega (arith, l, h))
filter_stretch p lo (suc n) a (suc w) l h hit miss = go (cases_lt lo a) (λ lt. filter_stretch p (lo + 1) n a (suc w) (omega (arith, lt)) (omega (arith, h)) hit (λ s b c d. miss s (omega (arith, b)) (omega (arith, c)) d)) (λ e. filter_stretch p (lo + 1) n (a + 1) w (omega (arith, e)) (omega (arith, h)) (λ s b c. hit s (omega (arith, b)) (omega (arith, c))) (λ s b c d. miss s (omega (arith, b)) (omega (arith, c)) (side s d (omega (arith, b, e)))))
  where
    side : (s : ℕ) → (s < a + 1) ⊎ (a + 1 + w ≤ s) → a < s → (s < a) ⊎ (a + suc w ≤ s)
    side s (inl lt) g = absurd (omega (arith, lt, g))
    side s (inr le) g = inr (omega (arith, le))

    go : (lo < a) ⊎ (a ≤ lo) → (lo < a → filter p (range_with_len (lo + 1) n) ≡ range_with_len a (suc w)) → (a ≡ lo → filter p (range_with_len (lo + 1) n) ≡ range_with_len (a + 1) w) → filter p (range_with_len lo (suc n)) ≡ range_with_len a (suc w)
    go (inl lt) f g = rw (miss lo (omega arith) (omega arith) (inl lt)) (f lt)
    go (inr le) f g =
        let e : a ≡ lo = omega (arith, l, le) in
        rw (hit lo le (omega (arith, e))) (ap (λ (x : List ℕ). lo ∷ x) (g e) ∙ ap (λ (x : ℕ). x ∷ range_with_len (a + 1) w) (sym e))

pub same_objects : (a b : DomainObject) → is_same_object a b ≡ true → a ≡ b
same_objects a b e =
    let r = and_parts (a.domain == b.domain) (a.number == b.number) e in
    ap (λ (d : ℕ). object d a.number) (eqb-true a.domain b.domain r.0) ∙ ap (λ (k : ℕ). object b.domain k) (eqb-true a.number b.number r.1)

pub same_object : (o : DomainObject) → is_same_object o o ≡ true
same_object o = rw (eq-eqb o.domain o.domain refl, eq-eqb o.number o.number refl) refl

pub fields_at : (f : ℕ) (ss : List Spotted) (j : ℕ) → AreFields f ss → j < length ss → (get_or ss j no_spot).spot ≡ Field (f + j)
fields_at f [] j a h = absurd (omega (arith, h))
fields_at f (s ∷ ss) zero a h = a.0 ∙ ap (λ (n : ℕ). Field n) (omega arith)
fields_at f (s ∷ ss) (suc j) a h = fields_at (f + 1) ss j a.1 (omega (arith, h)) ∙ ap (λ (n : ℕ). Field n) (omega arith)

pub elements_at : (f : ℕ) (ss : List Spotted) (j : ℕ) → AreElements f ss → j < length ss → (get_or ss j no_spot).spot ≡ Element (f + j)
elements_at f [] j a h = absurd (omega (arith, h))
elements_at f (s ∷ ss) zero a h = a.0 ∙ ap (λ (n : ℕ). Element n) (omega arith)
elements_at f (s ∷ ss) (suc j) a h = elements_at (f + 1) ss j a.1 (omega (arith, h)) ∙ ap (λ (n : ℕ). Element n) (omega arith)

-- the spot of a column of an object's slots
abbrev pub kind : Class → ℕ → Spot
kind (Object c) j = Field j
kind (Array t) zero = Length
kind (Array t) (suc k) = Element k
kind Set j = Field j
kind ListClass j = Field j

kind_at : (c : Class) (ss : List Spotted) (j : ℕ) → AreSpots c ss → j < length ss → (get_or ss j no_spot).spot ≡ kind c j
kind_at (Object c) ss j a h = fields_at 0 ss j a h ∙ ap (λ (n : ℕ). Field n) (omega arith)
kind_at Set ss j a h = absurd a
kind_at ListClass ss j a h = absurd a
kind_at (Array t) [] j a h = absurd a
kind_at (Array t) (s ∷ ss) zero a h = a.0
kind_at (Array t) (s ∷ ss) (suc k) a h = elements_at 0 ss k a.1 (omega (arith, h)) ∙ ap (λ (n : ℕ). Element n) (omega arith)

kind_apart : (c : Class) (i j : ℕ) → kind c i ≡ kind c j → i ≡ j
kind_apart (Object c) i j e = cc (e)
kind_apart Set i j e = cc (e)
kind_apart ListClass i j e = cc (e)
kind_apart (Array t) zero zero e = refl
kind_apart (Array t) zero (suc j) e = absurd (cc (e))
kind_apart (Array t) (suc i) zero e = absurd (cc (e))
kind_apart (Array t) (suc i) (suc j) e = ap suc (cc (e))

same_spot : (s : Spot) → is_same_spot s s ≡ true
same_spot (Field f) = eq-eqb f f refl
same_spot Length = refl
same_spot (Element k) = eq-eqb k k refl

pub same_spots : (s t : Spot) → is_same_spot s t ≡ true → s ≡ t
same_spots (Field f) (Field g) e = ap (λ (n : ℕ). Field n) (eqb-true f g e)
same_spots (Element f) (Element g) e = ap (λ (n : ℕ). Element n) (eqb-true f g e)
same_spots Length Length e = refl
same_spots (Field f) Length e = absurd (cc (e))
same_spots (Field f) (Element k) e = absurd (cc (e))
same_spots Length (Field g) e = absurd (cc (e))
same_spots Length (Element k) e = absurd (cc (e))
same_spots (Element k) (Field g) e = absurd (cc (e))
same_spots (Element k) Length e = absurd (cc (e))

-- how many slots an object has in a vector's heap, by its class, its slots and the value of the first
abbrev pub extent_of : Class → ℕ → Value → ℕ
extent_of (Object c) n x = n
extent_of Set n x = n
extent_of ListClass n x = n
extent_of (Array t) n x = suc (length_in x)

take_range : (k a n : ℕ) → k ≤ n → take k (range_with_len a n) ≡ range_with_len a k
take_range zero a n h = refl
take_range (suc k) a zero h = absurd (omega (arith, h))
take_range (suc k) a (suc n) h = ap (λ (x : List ℕ). a ∷ x) (take_range k (a + 1) n (omega (arith, h)))

lengths_fit : (problem : Problem) (m : ℕ) (domain : Domain) (i : ℕ) → AreLengths m domain → length_in (get_or (choices_in problem domain) i no_choice).value ≤ m
lengths_fit problem m [] i h = omega arith
lengths_fit problem m (Plain (Int (pos n)) ∷ items) zero h = h.0
lengths_fit problem m (Plain (Int (pos n)) ∷ items) (suc i) h = lengths_fit problem m items i h.1
lengths_fit problem m (Plain (Int (negsuc n)) ∷ items) i h = absurd h
lengths_fit problem m (Plain (Truth b) ∷ items) i h = absurd h
lengths_fit problem m (Plain Null ∷ items) i h = absurd h
lengths_fit problem m (Plain (Reference o) ∷ items) i h = absurd h
lengths_fit problem m (Objects d ∷ items) i h = absurd h

module _ (problem : Problem) (w : IsWellFormed problem) where
  -- ---- objects and their numbers

  pub one_object : (d k e l : ℕ) → d < length problem.domains → k < count_at problem d → e < length problem.domains → l < count_at problem e → heap_number problem (object d k) ≡ heap_number problem (object e l) → object d k ≡ object e l
  one_object d k e l a b c f q = sym (object_at_number problem d k a b).1 ∙ (ap (λ (n : ℕ). get_or (all_objects problem) n nobody) q ∙ (object_at_number problem e l c f).1)

  abbrev pub class_at : ℕ → Class
  class_at d = (domain_at problem d).class

  pub spot_is : (d j : ℕ) → d < length problem.domains → j < width_at problem d → (spotted_at problem d j).spot ≡ kind (class_at d) j
  spot_is d j h b = kind_at (class_at d) (domain_at problem d).spots j (w.spots d h) b

  pub column_apart : (d i j : ℕ) → d < length problem.domains → i < width_at problem d → j < width_at problem d → (spotted_at problem d i).spot ≡ (spotted_at problem d j).spot → i ≡ j
  column_apart d i j h a b e = kind_apart (class_at d) i j (sym (spot_is d i h a) ∙ (e ∙ spot_is d j h b))

  -- ---- the slots of an object

  owner_of : (d k j : ℕ) → d < length problem.domains → k < count_at problem d → j < width_at problem d → (slot_at problem (first_slot problem d k + j)).owner ≡ Some (object d k)
  owner_of d k j a b c = ap (λ (x : Slot). x.owner) (object_slot problem d k j a b c).1

  owned_yes : (d k : ℕ) → d < length problem.domains → k < count_at problem d → (s : ℕ) → first_slot problem d k ≤ s → s < first_slot problem d k + width_at problem d → is_owner (object d k) (slot_at problem s).owner ≡ true
  owned_yes d k a b s l h =
      let j = s - first_slot problem d k in
      let e : first_slot problem d k + j ≡ s = omega (arith, l) in
      let o : (slot_at problem s).owner ≡ Some (object d k) = ap (λ (x : ℕ). (slot_at problem x).owner) (sym e) ∙ owner_of d k j a b (omega (arith, l, h)) in
      rw o (same_object (object d k))

  owned_no : (d k : ℕ) → d < length problem.domains → k < count_at problem d → (s : ℕ) → s < length (slots problem) → (s < first_slot problem d k) ⊎ (first_slot problem d k + width_at problem d ≤ s) → is_owner (object d k) (slot_at problem s).owner ≡ false
  owned_no d k a b s h out = go (slot_case problem s h)
    where
      apart : (k' j : ℕ) → j < width_at problem d → k ≡ k' → s ≡ first_slot problem d k' + j → ⊥
      apart k' j c e z = away (s ≡ first_slot problem d k + j) (z ∙ ap (λ (x : ℕ). first_slot problem d x + j) (sym e)) out
        where
          away : (X : Type 0) → s ≡ first_slot problem d k + j → (s < first_slot problem d k) ⊎ (first_slot problem d k + width_at problem d ≤ s) → ⊥
          away X q (inl lt) = absurd (omega (arith, q, lt, c))
          away X q (inr le) = absurd (omega (arith, q, le, c))

      go : SlotCase problem s → is_owner (object d k) (slot_at problem s).owner ≡ false
      go (is_this z) = rw z refl
      go (is_parameter i l z) = rw (z, (parameter_slot problem i l).1) refl
      go (is_spot e l j x y c z) =
          let o : (slot_at problem s).owner ≡ Some (object e l) = ap (λ (x : ℕ). (slot_at problem x).owner) z ∙ owner_of e l j x y c in
          rw o (false_from_ne_true (is_same_object (object d k) (object e l)) (λ t.
          let q : object d k ≡ object e l = same_objects (object d k) (object e l) t in
          let qd : d ≡ e = ap (λ (o : DomainObject). o.domain) q in
          let qk : k ≡ l = ap (λ (o : DomainObject). o.number) q in
          apart l j (subst (λ (n : ℕ). j < width_at problem n) (sym qd) c) qk (z ∙ ap (λ (n : ℕ). first_slot problem n l + j) (sym qd))))

  -- all slots of an object are slots
  slots_inside : (d k : ℕ) → d < length problem.domains → k < count_at problem d → (m : ℕ) → width_at problem d ≡ m → first_slot problem d k + m ≤ length (slots problem) ⊎ (m ≡ 0)
  slots_inside d k a b zero e = inr refl
  slots_inside d k a b (suc m) e = inl (omega (arith, (object_slot problem d k m a b (omega (arith, e))).0))

  pub slots_owned_are : (d k : ℕ) → d < length problem.domains → k < count_at problem d → slots_owned problem (object d k) ≡ range_with_len (first_slot problem d k) (width_at problem d)
  slots_owned_are d k a b = go (width_at problem d) refl (slots_inside d k a b (width_at problem d) refl)
    where
      n : ℕ
      n = length (slots problem)

      p : ℕ → Bool
      p s = is_owner (object d k) (slot_at problem s).owner

      go : (m : ℕ) → width_at problem d ≡ m → (first_slot problem d k + m ≤ n) ⊎ (m ≡ 0) → filter p (upto n) ≡ range_with_len (first_slot problem d k) m
      go m e (inl le) = filter_stretch p 0 n (first_slot problem d k) m (omega arith) (omega (arith, le)) (λ s l h. owned_yes d k a b s l (omega (arith, h, e))) (λ s l h out. owned_no d k a b s (omega (arith, h)) (subst (λ (x : ℕ). (s < first_slot problem d k) ⊎ (first_slot problem d k + x ≤ s)) (sym e) out))
      go m e (inr z) = rw z (filter_none p 0 n (λ s l h. owned_no d k a b s (omega (arith, h)) (side s (cases_lt s (first_slot problem d k)))))
        where
          side : (s : ℕ) → (s < first_slot problem d k) ⊎ (first_slot problem d k ≤ s) → (s < first_slot problem d k) ⊎ (first_slot problem d k + width_at problem d ≤ s)
          side s (inl lt) = inl lt
          side s (inr le) = inr (omega (arith, le, e, z))

  abbrev pub extent : List ℕ → ℕ → ℕ → ℕ
  extent v d k = extent_of (class_at d) (width_at problem d) (value_at problem v (first_slot problem d k))

  -- an array's length is below its slots
  length_below : (v : List ℕ) (d k : ℕ) → d < length problem.domains → k < count_at problem d → (ss : List Spotted) (t : ℕ) → (domain_at problem d).spots ≡ ss → AreSpots (Array t) ss → length_in (value_at problem v (first_slot problem d k)) < length ss
  length_below v d k a b [] t e h = absurd h
  length_below v d k a b (s ∷ ss) t e h =
      let zero_in : 0 < width_at problem d = omega (arith, ap (λ (x : List Spotted). length x) e) in
      let at : first_slot problem d k ≡ first_slot problem d k + 0 = omega arith in
      let domain : (slot_at problem (first_slot problem d k)).domain ≡ s.domain =
      ap (λ (x : ℕ). (slot_at problem x).domain) at ∙ (ap (λ (x : Slot). x.domain) (object_slot problem d k 0 a b zero_in).1 ∙ ap (λ (x : List Spotted). (get_or x 0 no_spot).domain) e) in
      let fit = lengths_fit problem (length ss) s.domain (get_or v (first_slot problem d k) 0) h.2 in
      let is : length_in (value_at problem v (first_slot problem d k)) ≡ length_in (get_or (choices_in problem s.domain) (get_or v (first_slot problem d k) 0) no_choice).value =
      ap (λ (x : Domain). length_in (get_or (choices_in problem x) (get_or v (first_slot problem d k) 0) no_choice).value) domain in
      omega (arith, fit, is)

  pub extent_within : (v : List ℕ) (d k : ℕ) → d < length problem.domains → k < count_at problem d → extent v d k ≤ width_at problem d
  extent_within v d k a b = go (class_at d) (w.spots d a)
    where
      go : (c : Class) → AreSpots c (domain_at problem d).spots → extent_of c (width_at problem d) (value_at problem v (first_slot problem d k)) ≤ width_at problem d
      go (Object c) h = omega arith
      go Set h = absurd h
      go ListClass h = absurd h
      go (Array t) h = length_below v d k a b (domain_at problem d).spots t refl h

  pub slots_in_are : (v : List ℕ) (d k : ℕ) → d < length problem.domains → k < count_at problem d → slots_in problem v (object d k) ≡ range_with_len (first_slot problem d k) (extent v d k)
  slots_in_are v d k a b = go (class_at d) (w.spots d a)
    where
      there : ℕ → List ℕ
      there m = range_with_len (first_slot problem d k) m

      x : Value
      x = value_at problem v (first_slot problem d k)

      -- an array has slots
      array : (t m : ℕ) → width_at problem d ≡ m → length_in x < m → slots_there problem v (Array t) (there m) ≡ there (suc (length_in x))
      array t zero e h = absurd (omega (arith, h))
      array t (suc m) e h =
          let one : length_in x + 1 ≡ suc (length_in x) = omega arith in
          ap (λ (n : ℕ). take n (there (suc m))) one ∙ ap (λ (l : List ℕ). first_slot problem d k ∷ l) (take_range (length_in x) (first_slot problem d k + 1) m (omega (arith, h)))

      go : (c : Class) → AreSpots c (domain_at problem d).spots → slots_there problem v c (slots_owned problem (object d k)) ≡ there (extent_of c (width_at problem d) x)
      go (Object c) h = slots_owned_are d k a b
      go Set h = absurd h
      go ListClass h = absurd h
      go (Array t) h = ap (slots_there problem v (Array t)) (slots_owned_are d k a b) ∙ array t (width_at problem d) refl (length_below v d k a b (domain_at problem d).spots t refl h)

  -- ---- the slots of a place

  pub place_is : (d k : ℕ) (spot : Spot) → d < length problem.domains → k < count_at problem d → (s : ℕ) → s < length (slots problem) → is_same_place (slot_at problem s).place (At (heap_number problem (object d k)) spot) ≡ true → (j : ℕ) × (s ≡ first_slot problem d k + j) × (j < width_at problem d) × (kind (class_at d) j ≡ spot)
  place_is d k spot a b s h t = go (slot_case problem s h)
    where
      number : ℕ
      number = heap_number problem (object d k)

      place : SlotPlace
      place = At number spot

      go : SlotCase problem s → (j : ℕ) × (s ≡ first_slot problem d k + j) × (j < width_at problem d) × (kind (class_at d) j ≡ spot)
      go (is_this z) = let e : is_same_place (slot_at problem s).place place ≡ false = rw z refl in absurd (cc (t, e))
      go (is_parameter i l z) = absurd (cc (t, ap (λ (x : ℕ). is_same_place (slot_at problem x).place place) z, ap (λ (x : Slot). is_same_place x.place place) (parameter_slot problem i l).1))
      go (is_spot e l j x y c' z) =
          let p : (slot_at problem s).place ≡ At (heap_number problem (object e l)) (kind (class_at e) j) = ap (λ (x : ℕ). (slot_at problem x).place) z ∙ (ap (λ (x : Slot). x.place) (object_slot problem e l j x y c').1 ∙ ap (λ (x : Spot). At (heap_number problem (object e l)) x) (spot_is e j x c')) in
          let t' : is_same_place (At (heap_number problem (object e l)) (kind (class_at e) j)) place ≡ true = sym (ap (λ (x : SlotPlace). is_same_place x place) p) ∙ t in
          let r = and_parts (heap_number problem (object e l) == number) (is_same_spot (kind (class_at e) j) spot) t' in
          let q : object e l ≡ object d k = one_object e l d k x y a b (eqb-true (heap_number problem (object e l)) number r.0) in
          (j, z ∙ ap (λ (o : DomainObject). first_slot problem o.domain o.number + j) q, subst (λ (o : DomainObject). j < width_at problem o.domain) q c', ap (λ (o : DomainObject). kind (class_at o.domain) j) (sym q) ∙ same_spots (kind (class_at e) j) spot r.1)

  -- a spot that an object doesn't have has no slot
  pub spot_none : (d k : ℕ) (spot : Spot) → d < length problem.domains → k < count_at problem d → ((j : ℕ) → j < width_at problem d → kind (class_at d) j ≡ spot → ⊥) → slots_for problem (At (heap_number problem (object d k)) spot) ≡ []
  spot_none d k spot a b never = filter_none (λ s. is_same_place (slot_at problem s).place (At (heap_number problem (object d k)) spot)) 0 (length (slots problem)) (λ s l h. false_from_ne_true (is_same_place (slot_at problem s).place (At (heap_number problem (object d k)) spot)) (λ t. let r = place_is d k spot a b s (omega (arith, h)) t in never r.0 r.2 r.3))

  pub spot_slots : (d k j : ℕ) → d < length problem.domains → k < count_at problem d → j < width_at problem d → slots_for problem (At (heap_number problem (object d k)) (kind (class_at d) j)) ≡ (first_slot problem d k + j) ∷ []
  spot_slots d k j a b c =
      let r = object_slot problem d k j a b c in
      filter_stretch (λ s. is_same_place (slot_at problem s).place place) 0 (length (slots problem)) at 1 (omega arith) (omega (arith, r.0))
      (λ s l h. let e : at ≡ s = omega (arith, l, h) in rw (sym e, r.1, spot_is d j a c, eq-eqb number number refl, same_spot (kind (class_at d) j)) refl)
      (λ s l h out. false_from_ne_true (is_same_place (slot_at problem s).place place) (λ t. let q = place_is d k (kind (class_at d) j) a b s (omega (arith, h)) t in off s out (q.1 ∙ ap (λ (n : ℕ). first_slot problem d k + n) (kind_apart (class_at d) q.0 j q.3))))
    where
      number : ℕ
      number = heap_number problem (object d k)

      place : SlotPlace
      place = At number (kind (class_at d) j)

      at : ℕ
      at = first_slot problem d k + j

      off : (s : ℕ) → (s < at) ⊎ (at + 1 ≤ s) → s ≡ at → ⊥
      off s (inl lt) q = absurd (omega (arith, lt, q))
      off s (inr le) q = absurd (omega (arith, le, q))

  pub this_slots : slots_for problem This ≡ 0 ∷ []
  this_slots = filter_stretch (λ s. is_same_place (slot_at problem s).place This) 0 (length (slots problem)) 0 1 (omega arith) (omega arith)
      (λ s l h. let e : 0 ≡ s = omega (arith, l, h) in rw (sym e) refl)
      (λ s l h out. false_from_ne_true (is_same_place (slot_at problem s).place This) (λ t. go s t out (slot_case problem s (omega (arith, h)))))
    where
      go : (s : ℕ) → is_same_place (slot_at problem s).place This ≡ true → (s < 0) ⊎ (0 + 1 ≤ s) → SlotCase problem s → ⊥
      go s t (inl lt) c = absurd (omega (arith, lt))
      go s t (inr le) (is_this z) = absurd (omega (arith, le, z))
      go s t (inr le) (is_parameter i l z) = absurd (cc (t, ap (λ (x : ℕ). is_same_place (slot_at problem x).place This) z, ap (λ (x : Slot). is_same_place x.place This) (parameter_slot problem i l).1))
      go s t (inr le) (is_spot d k j a b c z) = absurd (cc (t, ap (λ (x : ℕ). is_same_place (slot_at problem x).place This) z, ap (λ (x : Slot). is_same_place x.place This) (object_slot problem d k j a b c).1))

  pub parameter_slots_are : (i : ℕ) → i < parameters problem → slots_for problem (Parameter i) ≡ (i + 1) ∷ []
  parameter_slots_are i h =
      let r = parameter_slot problem i h in
      filter_stretch (λ s. is_same_place (slot_at problem s).place (Parameter i)) 0 (length (slots problem)) (i + 1) 1 (omega arith) (omega (arith, r.0))
      (λ s l h. let e : i + 1 ≡ s = omega (arith, l, h) in rw (sym e, r.1) (eq-eqb i i refl))
      (λ s l h out. false_from_ne_true (is_same_place (slot_at problem s).place (Parameter i)) (λ t. go s t out (slot_case problem s (omega (arith, h)))))
    where
      off : (s : ℕ) → (s < i + 1) ⊎ (i + 1 + 1 ≤ s) → s ≡ i + 1 → ⊥
      off s (inl lt) q = absurd (omega (arith, lt, q))
      off s (inr le) q = absurd (omega (arith, le, q))

      go : (s : ℕ) → is_same_place (slot_at problem s).place (Parameter i) ≡ true → (s < i + 1) ⊎ (i + 1 + 1 ≤ s) → SlotCase problem s → ⊥
      go s t out (is_this z) = absurd (cc (t, ap (λ (x : ℕ). is_same_place (slot_at problem x).place (Parameter i)) z))
      go s t out (is_parameter j l z) =
          let t' : (j == i) ≡ true = sym (ap (λ (x : ℕ). is_same_place (slot_at problem x).place (Parameter i)) z ∙ ap (λ (x : Slot). is_same_place x.place (Parameter i)) (parameter_slot problem j l).1) ∙ t in
          off s out (z ∙ ap (λ (x : ℕ). x + 1) (eqb-true j i t'))
      go s t out (is_spot d k j a b c z) = absurd (cc (t, ap (λ (x : ℕ). is_same_place (slot_at problem x).place (Parameter i)) z, ap (λ (x : Slot). is_same_place x.place (Parameter i)) (object_slot problem d k j a b c).1))

  -- ---- the heap

  pub heap_long : (v : List ℕ) → length (heap_of problem v) ≡ length (all_objects problem)
  unfolding heap_of
  heap_long v = length-map (all_objects problem) (heap_object problem v)

  pub heap_get : (v : List ℕ) (d k : ℕ) → d < length problem.domains → k < count_at problem d → object_in (heap_of problem v) (heap_number problem (object d k)) ≡ heap_object problem v (object d k)
  unfolding heap_of
  heap_get v d k a b = let r = object_at_number problem d k a b in get_map (heap_object problem v) (all_objects problem) (heap_number problem (object d k)) nobody no_object r.0 ∙ ap (heap_object problem v) r.1

  pub heap_class : (v : List ℕ) (d k : ℕ) → d < length problem.domains → k < count_at problem d → (object_in (heap_of problem v) (heap_number problem (object d k))).class ≡ (domain_at problem d).class
  heap_class v d k a b = ap (λ (x : HeapObject). x.class) (heap_get v d k a b)

  -- the places of an object, by its class
  abbrev pub values_of_class : List ℕ → ℕ → ℕ → Class → List Value
  values_of_class v d k c = values_there c (map (value_at problem v) (range_with_len (first_slot problem d k) (extent_of c (width_at problem d) (value_at problem v (first_slot problem d k)))))

  pub heap_values : (v : List ℕ) (d k : ℕ) (c : Class) → d < length problem.domains → k < count_at problem d → class_at d ≡ c → (object_in (heap_of problem v) (heap_number problem (object d k))).values ≡ values_of_class v d k c
  heap_values v d k c a b e = ap (λ (x : HeapObject). x.values) (heap_get v d k a b) ∙ (ap (λ (ss : List ℕ). values_there (class_at d) (map (value_at problem v) ss)) (slots_in_are v d k a b) ∙ ap (values_of_class v d k) e)

  -- an object has as many fields as slots
  pub heap_width : (v : List ℕ) (d k c : ℕ) → d < length problem.domains → k < count_at problem d → class_at d ≡ Object c → length (object_in (heap_of problem v) (heap_number problem (object d k))).values ≡ width_at problem d
  heap_width v d k c a b e = ap (λ (x : List Value). length x) (heap_values v d k (Object c) a b e) ∙ length-map-range_with_len (value_at problem v) (first_slot problem d k) (width_at problem d)

  -- a field has the value of its slot
  pub heap_field : (v : List ℕ) (d k c f : ℕ) → d < length problem.domains → k < count_at problem d → class_at d ≡ Object c → f < width_at problem d → value_of_spot (object_in (heap_of problem v) (heap_number problem (object d k))) (Field f) ≡ value_at problem v (first_slot problem d k + f)
  heap_field v d k c f a b e l = ap (λ (x : List Value). get_or x f Null) (heap_values v d k (Object c) a b e) ∙ get_or-map-range_with_len (value_at problem v) (first_slot problem d k) (width_at problem d) f (first_slot problem d k + f) Null l refl

  pub heap_past : (v : List ℕ) (d k c f : ℕ) → d < length problem.domains → k < count_at problem d → class_at d ≡ Object c → width_at problem d ≤ f → value_of_spot (object_in (heap_of problem v) (heap_number problem (object d k))) (Field f) ≡ Null
  heap_past v d k c f a b e l = ap (λ (x : List Value). get_or x f Null) (heap_values v d k (Object c) a b e) ∙ get_or_past (map (value_at problem v) (range_with_len (first_slot problem d k) (width_at problem d))) f Null (omega (arith, l, length-map-range_with_len (value_at problem v) (first_slot problem d k) (width_at problem d)))

  -- an array's length is the value of its first slot, and an element has the value of its slot
  pub heap_length : (v : List ℕ) (d k t : ℕ) → d < length problem.domains → k < count_at problem d → class_at d ≡ Array t → length (object_in (heap_of problem v) (heap_number problem (object d k))).values ≡ length_in (value_at problem v (first_slot problem d k))
  heap_length v d k t a b e = ap (λ (x : List Value). length x) (heap_values v d k (Array t) a b e) ∙ length-map-range_with_len (value_at problem v) (first_slot problem d k + 1) (length_in (value_at problem v (first_slot problem d k)))

  pub heap_element : (v : List ℕ) (d k t i : ℕ) → d < length problem.domains → k < count_at problem d → class_at d ≡ Array t → i < length_in (value_at problem v (first_slot problem d k)) → value_of_spot (object_in (heap_of problem v) (heap_number problem (object d k))) (Element i) ≡ value_at problem v (first_slot problem d k + suc i)
  heap_element v d k t i a b e l = ap (λ (x : List Value). get_or x i Null) (heap_values v d k (Array t) a b e) ∙ get_or-map-range_with_len (value_at problem v) (first_slot problem d k + 1) (length_in (value_at problem v (first_slot problem d k))) i (first_slot problem d k + suc i) Null l (omega arith)
